-- `key_ok` meets its contract. Assumes nothing.
use native.Mathlib.Omega.{arith}
use mathlib.Core.Path.{◌∙◌}
use Rattle.state.proofs.Had.{at-had}
use Rattle.keys.proofs.Keys.{verdict-whole, content-within, key-administrator, key-ballot-box, key-authorizer, key-voter, key-verifier}
use Rattle.keys.proofs.key_ok.Goals as goal

pub part-key-requires : goal.part-key-requires
part-key-requires c = omega (arith, verdict-whole c.args.verdicts.now c.args.listed.now.candidate.now.state.items c.requires)

pub is_key-requires : goal.is_key-requires
is_key-requires c = (content-within (at-had c.args.listed.now.candidate.now.at_item), c.part-key.ensures.len, omega arith)

pub returns-in-Administrator : goal.returns-in-Administrator
returns-in-Administrator c =
    let l = c.args.listed.now in
    c.is_opening_key.ensures ∙ key-administrator (at-had l.candidate.now.at_item) c.args.verdicts.now _ c.part-key.ensures.value c.requires l.row.writer c.in-Administrator.is

pub returns-in-BallotBox : goal.returns-in-BallotBox
returns-in-BallotBox c =
    let l = c.args.listed.now in
    c.is_opening_key-in-BallotBox.ensures ∙ key-ballot-box (at-had l.candidate.now.at_item) c.args.verdicts.now _ c.part-key.ensures.value c.requires l.row.writer c.in-BallotBox.is

pub returns-in-Authorizer : goal.returns-in-Authorizer
returns-in-Authorizer c =
    let l = c.args.listed.now in
    c.is_earlier_key.ensures ∙ key-authorizer (at-had l.candidate.now.at_item) c.args.verdicts.now _ c.part-key.ensures.value c.requires l.row.writer c.in-Authorizer.is

pub returns-in-Voter : goal.returns-in-Voter
returns-in-Voter c =
    let l = c.args.listed.now in
    c.is_earlier_key-in-Voter.ensures ∙ key-voter (at-had l.candidate.now.at_item) c.args.verdicts.now _ c.part-key.ensures.value c.requires l.row.writer c.in-Voter.is

pub returns-in-Verifier : goal.returns-in-Verifier
returns-in-Verifier c =
    let l = c.args.listed.now in
    c.is_key.ensures ∙ key-verifier (at-had l.candidate.now.at_item) c.args.verdicts.now _ c.part-key.ensures.value c.requires l.row.writer c.in-Verifier.is
