use Rattle.std.proofs.Common.{rules, ◌≡◌, subst, sym, ap, take, drop, length, ◌-◌, ◌+◌, ◌++◌, ℕ, List, ◌∙◌}
use Rattle.std.proofs.Math.Seq.{take-add}
use Rattle.std.proofs.lemmas.List.{take_rest}
use Rattle.std.specs.Io.KnownBytes.{Appends}
use Rattle.std.proofs.KnownBytes.{Appends-trans}
use Rattle.file_io.proofs.retry.write_all.Goals as goal

more_taken : (n m : ℕ) (bytes : List ℕ) → take n bytes ++ take m (take (length bytes - n) (drop n bytes)) ≡ take (n + m) bytes
more_taken n m bytes = ap (λ rest. take n bytes ++ take m rest) (take_rest bytes n) ∙ sym (take-add n m bytes)

pub loop-n-preserved : goal.loop-n-preserved
loop-n-preserved g c = (search rules, subst (Appends _ _) (more_taken c.loop-n.n c.in-Some.more c.args.bytes.now) (Appends-trans _ _ _ _ _ c.loop-n.invariant.1 c.in-Some.ensures.appended))
