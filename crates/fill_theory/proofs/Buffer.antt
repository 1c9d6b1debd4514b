-- What the buffer holds afterwards: on a refusal what it held; else the text, and behind it what stood there.
use Rattle.std.proofs.Common.{Ok, Err}
use mathlib.Core.Path.{◌≡◌, refl, sym, ap, ◌∙◌}
use mathlib.Core.List.{List, ◌++◌}
use Prim.Native.Nat.{ℕ}
use lib.ListN.{length, drop}
use lib.Seq.{drop-append_seam}
use Rattle.spec.specs.declared.Refusal.{Refusal}
use Rattle.text_theory.specs.Text.{in_front}
use Rattle.fill_theory.specs.Answer.{buffer_after}

pub refusal_keeps : (r : Refusal) (buffer : List ℕ) → buffer_after (Err r) buffer ≡ buffer
unfolding buffer_after
refusal_keeps r buffer = refl

pub text_in_front : (text front rest : List ℕ) → length front ≡ length text → buffer_after (Ok text) (front ++ rest) ≡ text ++ rest
unfolding buffer_after in_front
text_in_front text front rest e = ap (text ++◌) (ap (λ n. drop n (front ++ rest)) (sym e) ∙ drop-append_seam front rest)
