use Rattle.std.proofs.Common.{[], sym, subst}
use Rattle.sha512.specs.State.{Holds}
use Rattle.sha512.specs.declared.Hash.{Hash}
use Rattle.sha512.proofs.Holds.{holds-fresh384}
use Rattle.sha512_block.specs.Fips.{H0-384}
use Rattle.vectors.proofs.running.Sha384RunningHash12.new.Goals as goal

pub returns : goal.returns
returns c = subst (λ (h : Hash). Holds H0-384 h []) (sym c.new384.ensures) holds-fresh384
