-- Four columns get a number each.
use mathlib.Core.Path.{refl}
use Rattle.split.proofs.signature_lines.store_signature.Goals as goal

pub returns : goal.returns
returns c = refl
