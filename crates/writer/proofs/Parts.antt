-- Laws of writing by places of a buffer: a text is written in parts, one behind the other. Buffer.antt has them for a writer, which holds
-- its buffer and its place.
use mathlib.Core.Path.{◌≡◌, refl, sym, ap, ◌∙◌, subst}
use mathlib.Core.List.{List, [], ◌++◌}
use Prim.Native.Nat.{ℕ, ◌+◌, ◌<◌}
use native.Mathlib.Omega.{arith}
use lib.ListN.{length, length-append}
use Rattle.writer.specs.Buffer.{overwrite, counted, WrittenAt}
use Rattle.writer.proofs.Buffer.{overwrite_length, overwrite_append, overwrite_counted}

-- of writing `whole` at a place of a buffer, `rest` remains to be written at a later place
pub record Remains (before : List ℕ) (from : ℕ) (whole : List ℕ) (buffer : List ℕ) (at : ℕ) (rest : List ℕ) : Type 0 where
  pub same : overwrite buffer at rest ≡ overwrite before from whole
  pub place : counted (at + length rest) ≡ counted (from + length whole)
  pub sized : length buffer ≡ length before
  -- a buffer's length and a place are numbers of 64 bits
  pub short : length before < 18446744073709551616
  pub fits : at < 18446744073709551616

-- the parts of a text, before the first is written
pub parted : (d : List ℕ) (at : ℕ) {s parts : List ℕ} → s ≡ parts → length d < 18446744073709551616 → at < 18446744073709551616
    → Remains d at s d at parts
parted d at {s} {parts} e h k = subst (Remains d at s d at) e (record { same = refl; place = refl; sized = refl; short = h; fits = k })

module _ {before : List ℕ} {from : ℕ} {whole : List ℕ} where
  -- what remains, said in another way
  pub restated : {d : List ℕ} {at : ℕ} {r r' : List ℕ} → r ≡ r' → Remains before from whole d at r → Remains before from whole d at r'
  restated {d} {at} e h = subst (Remains before from whole d at) e h

  -- a part in front is written: what is behind it remains
  pub onward : {d d' : List ℕ} {at next : ℕ} (s t : List ℕ)
      → Remains before from whole d at (s ++ t) → WrittenAt d d' at s next → Remains before from whole d' next t
  onward {d} {d'} {at} {next} s t r w =
      let long = overwrite_length d at s in
      let l = length-append s t in
      record {
        same =
            rw (w.holds, w.moved)
            (overwrite_counted (overwrite d at s) (at + length s) t (omega (arith, r.sized, r.short))
            ∙ sym (overwrite_append d at s t) ∙ r.same);
        place = omega (arith, r.place, w.moved);
        sized = ap length w.holds ∙ overwrite_length d at s ∙ r.sized;
        short = r.short;
        fits = omega (arith, w.moved);
      }

  -- nothing remains: the whole is written
  pub done : {d : List ℕ} {at : ℕ} → Remains before from whole d at [] → WrittenAt before d from whole at
  unfolding overwrite
  done r = record { holds = r.same; moved = omega (arith, r.place, r.fits) }

  -- the last part is written: so is the whole
  pub finish : {d d' : List ℕ} {at next : ℕ} {s : List ℕ}
      → Remains before from whole d at s → WrittenAt d d' at s next → WrittenAt before d' from whole next
  finish r w = record { holds = w.holds ∙ r.same; moved = w.moved ∙ r.place }
