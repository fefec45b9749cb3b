-- `verdict_finding` meets its contract. Assumes nothing.
use native.Mathlib.Omega.{arith}
use Rattle.model.proofs.Tests.{passes}
use Rattle.state.proofs.Had.{at-had}
use Rattle.judge.proofs.First.{told, verdict-none, verdict-key, verdict-bad, verdict-good}
use Rattle.judge.proofs.checks.verdict_finding.Goals as goal

pub key_ok-requires : goal.key_ok-requires
key_ok-requires c = passes (told c.verdict_ok.ensures c.if-not-verdict_ok.false)

pub signature_ok-requires : goal.signature_ok-requires
signature_ok-requires c =
    let more = (at-had c.args.listed.now.candidate.now.at_item).more in
    (omega arith, passes (told c.verdict_ok.ensures c.if-not-verdict_ok.false))

pub returns-then-not-verdict_ok : goal.returns-then-not-verdict_ok
returns-then-not-verdict_ok c on =
    verdict-none _ on _ _ _ _
    (told c.verdict_ok.ensures c.if-not-verdict_ok.true)

pub returns-then-not-key_ok : goal.returns-then-not-key_ok
returns-then-not-key_ok c on =
    verdict-key _ on _ _ _ _
    (told c.verdict_ok.ensures c.if-not-verdict_ok.false)
    (told c.key_ok.ensures c.if-not-key_ok.true)

pub returns-then-not-signature_ok : goal.returns-then-not-signature_ok
returns-then-not-signature_ok c on =
    verdict-bad _ on _ _ _ _
    (told c.verdict_ok.ensures c.if-not-verdict_ok.false)
    (told c.key_ok.ensures c.if-not-key_ok.false)
    (told c.signature_ok.ensures c.if-not-signature_ok.true)

pub returns : goal.returns
returns c on =
    verdict-good _ on _ _ _ _
    (told c.verdict_ok.ensures c.if-not-verdict_ok.false)
    (told c.key_ok.ensures c.if-not-key_ok.false)
    (told c.signature_ok.ensures c.if-not-signature_ok.false)
