-- `known_finding` meets its contract. Assumes nothing.
use Rattle.plan.proofs.Words.{hit-passes, hit_same, kept, left}
use Rattle.plan.proofs.known_finding.Goals as goal

pub returns-then-known-slot : goal.returns-then-known-slot
returns-then-known-slot c =
    let x = c.args in record {
      answer = hit-passes x.board.now x.word x.known.now c.requires c.if-known-slot.true;
      known = hit_same x.board.now x.word x.known.now c.requires c.if-known-slot.true;
    }

pub returns-in_err-word_finding-clause-known : goal.returns-in_err-word_finding-clause-known
returns-in_err-word_finding-clause-known c =
    let x = c.args in left x.board.now x.word x.known.now c.word_finding.ensures _ c.in_err-word_finding.was

pub returns-clause-known : goal.returns-clause-known
returns-clause-known c = let x = c.args in kept x.board.now x.word x.known.now c.word_finding.ensures c.in_ok-word_finding.was
