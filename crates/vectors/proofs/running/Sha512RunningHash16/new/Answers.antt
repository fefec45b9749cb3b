use Rattle.std.proofs.Common.{[], sym, subst}
use Rattle.sha512.specs.State.{Holds}
use Rattle.sha512.specs.declared.Hash.{Hash}
use Rattle.sha512.proofs.Holds.{holds-fresh512}
use Rattle.sha512_block.specs.Fips.{H0-512}
use Rattle.vectors.proofs.running.Sha512RunningHash16.new.Goals as goal

pub returns : goal.returns
returns c = subst (λ (h : Hash). Holds H0-512 h []) (sym c.new512.ensures) holds-fresh512
