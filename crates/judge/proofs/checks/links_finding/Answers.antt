-- `links_finding` meets its contract. Assumes nothing.
use mathlib.Core.Path.{ap, ◌∙◌}
use Rattle.model.specs.Links.{address_ok}
use Rattle.format.specs.Format.{format_of}
use Rattle.state.proofs.Had.{at-had}
use Rattle.judge.proofs.First.{told, links-address, links-previous, links-parent, links-time, links-met}
use Rattle.judge.proofs.Item.{at_own, at_read}
use Rattle.judge.proofs.checks.links_finding.Goals as goal

pub address_ok-requires : goal.address_ok-requires
address_ok-requires c = at_own (at-had c.args.listed.now.candidate.now.at_item)

pub returns-then-not-address_ok : goal.returns-then-not-address_ok
returns-then-not-address_ok c on v =
    links-address _ on _ v _ _
    (told (c.address_ok.ensures ∙ ap (address_ok (format_of c.args.listed.now.candidate.now.board.now)) (at_read (at-had c.args.listed.now.candidate.now.at_item))) c.if-not-address_ok.true)

pub returns-then-not-previous_ok : goal.returns-then-not-previous_ok
returns-then-not-previous_ok c on v =
    links-previous _ on _ v _ _
    (told (c.address_ok.ensures ∙ ap (address_ok (format_of c.args.listed.now.candidate.now.board.now)) (at_read (at-had c.args.listed.now.candidate.now.at_item))) c.if-not-address_ok.false)
    (told c.previous_ok.ensures c.if-not-previous_ok.true)

pub returns-then-not-parent_ok : goal.returns-then-not-parent_ok
returns-then-not-parent_ok c on v =
    links-parent _ on _ v _ _
    (told (c.address_ok.ensures ∙ ap (address_ok (format_of c.args.listed.now.candidate.now.board.now)) (at_read (at-had c.args.listed.now.candidate.now.at_item))) c.if-not-address_ok.false)
    (told c.previous_ok.ensures c.if-not-previous_ok.false)
    (told c.parent_ok.ensures c.if-not-parent_ok.true)

pub returns-then-not-time_ok : goal.returns-then-not-time_ok
returns-then-not-time_ok c on v =
    links-time _ on _ v _ _
    (told (c.address_ok.ensures ∙ ap (address_ok (format_of c.args.listed.now.candidate.now.board.now)) (at_read (at-had c.args.listed.now.candidate.now.at_item))) c.if-not-address_ok.false)
    (told c.previous_ok.ensures c.if-not-previous_ok.false)
    (told c.parent_ok.ensures c.if-not-parent_ok.false)
    (told c.time_ok.ensures c.if-not-time_ok.true)

pub returns : goal.returns
returns c on v =
    links-met _ on _ v _ _
    (told (c.address_ok.ensures ∙ ap (address_ok (format_of c.args.listed.now.candidate.now.board.now)) (at_read (at-had c.args.listed.now.candidate.now.at_item))) c.if-not-address_ok.false)
    (told c.previous_ok.ensures c.if-not-previous_ok.false)
    (told c.parent_ok.ensures c.if-not-parent_ok.false)
    (told c.time_ok.ensures c.if-not-time_ok.false)
