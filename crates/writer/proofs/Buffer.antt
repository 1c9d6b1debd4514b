-- Laws of writing: a text is written in parts, one behind the other.
use mathlib.Core.Path.{◌≡◌, refl, sym, ap, ◌∙◌, subst}
use mathlib.Core.List.{List, [], ◌∷◌, ◌++◌}
use mathlib.Core.Bool.{Bool, true, false}
use Prim.Native.Nat.{ℕ, suc, min, ◌+◌, ◌-◌, ◌≤◌, ◌<◌}
use native.Mathlib.Nat.{add-zero, zero-add, add-suc, suc-add}
use native.Mathlib.Numerals.{add-one}
use native.Mathlib.Omega.{arith}
use lib.Dec.{leb}
use lib.ListN.{length, set, drop, get_or, length-set, length-append, drop_of_length-le}
use lib.Seq.{sets, sets-eq, set_out, set_comm, drop-cons}
use borrow.Author.Tests.{leb-true, leb-false}
use Rattle.writer.specs.declared.Writer.{Writer}
use Rattle.writer.specs.Buffer.{overwrite, counted, WrittenAt, Fits, Writes}

infixr 5 ◌then◌
-- ------------------------------------------------------------------ a buffer that bytes are put into

pub overwrite_length : (d : List ℕ) (at : ℕ) (s : List ℕ) → length (overwrite d at s) ≡ length d
unfolding overwrite
overwrite_length d at [] = refl
overwrite_length d at (b ∷ s) = overwrite_length (set d at b) (suc at) s ∙ length-set d at b

pub overwrite_append : (d : List ℕ) (at : ℕ) (s t : List ℕ) → overwrite d at (s ++ t) ≡ overwrite (overwrite d at s) (at + length s) t
unfolding overwrite
overwrite_append d at [] t = rw add-zero
overwrite_append d at (b ∷ s) t = rw (add-suc, ← suc-add) (overwrite_append (set d at b) (suc at) s t)

is_sets : (d : List ℕ) (at : ℕ) (s : List ℕ) → overwrite d at s ≡ sets d at s
unfolding overwrite
is_sets d at [] = refl
is_sets d at (b ∷ s) = is_sets (set d at b) (suc at) s

-- a text in front of a buffer that has room for it: the rest stays
pub overwrite_front : (d s : List ℕ) → length s ≤ length d → overwrite d 0 s ≡ s ++ drop (length s) d
overwrite_front d s h = is_sets d 0 s ∙ rw zero-add at (sets-eq s d 0 (rw zero-add h))

-- past the end nothing changes
pub overwrite_past : (d : List ℕ) (at : ℕ) (s : List ℕ) → length d ≤ at → overwrite d at s ≡ d
unfolding overwrite
overwrite_past d at [] h = refl
overwrite_past d at (b ∷ s) h = rw (set_out d at b h) (overwrite_past d (suc at) s (omega arith))

-- the byte at i is written, and those behind it remain
pub overwrite_next : (d : List ℕ) (at : ℕ) (s : List ℕ) (i : ℕ) → i < length s
    → overwrite (set d (at + i) (get_or s i 0)) (at + (i + 1)) (drop (i + 1) s) ≡ overwrite d (at + i) (drop i s)
unfolding overwrite
overwrite_next d at s i h = rw (add-one, add-suc, drop-cons s i 0 h)

-- as much of a text as there is room for is written, and the rest is past the end
pub overwrite_room : (d : List ℕ) (at : ℕ) (s : List ℕ) (n : ℕ) → at ≤ length d → n ≡ min (length s) (length d - at)
    → overwrite d (at + n) (drop n s) ≡ d
unfolding overwrite
overwrite_room d at s n h e = either (leb (length s) (length d - at)) refl
  where
    either : (b : Bool) → leb (length s) (length d - at) ≡ b → overwrite d (at + n) (drop n s) ≡ d
    either true t = let l = leb-true (length s) (length d - at) t in rw (drop_of_length-le s {i = n} (omega arith))
    either false t = let l = leb-false (length s) (length d - at) t in overwrite_past d (at + n) (drop n s) (omega arith)

-- a byte behind a text may be put in front of it in time
pub overwrite_behind : (d : List ℕ) (at : ℕ) (s : List ℕ) (p b : ℕ) → at + length s ≤ p → overwrite (set d p b) at s ≡ set (overwrite d at s) p b
unfolding overwrite
overwrite_behind d at [] p b h = refl
overwrite_behind d at (c ∷ s) p b h =
    rw (set_comm d p at b c (λ e. omega arith)) (overwrite_behind (set d at c) (suc at) s p b (omega arith))

-- a place that is counted is as good as the place itself
pub overwrite_counted : (d : List ℕ) (at : ℕ) (s : List ℕ) → length d < 18446744073709551616 → overwrite d (counted at) s ≡ overwrite d at s
overwrite_counted d at s h = either (leb at 18446744073709551615) refl
  where
    either : (b : Bool) → leb at 18446744073709551615 ≡ b → overwrite d (counted at) s ≡ overwrite d at s
    either true e = let l = leb-true at 18446744073709551615 e in ap (λ (n : ℕ). overwrite d n s) (omega arith)
    either false e =
        let l = leb-false at 18446744073709551615 e in
        overwrite_past d (counted at) s (omega arith) ∙ sym (overwrite_past d at s (omega arith))

-- ------------------------------------------------------------------ one text behind the other

-- a writer keeps to numbers of 64 bits
pub fits : (w : Writer) → Fits w
fits w = record { length_fits = w.fits.0; place_fits = w.fits.1 }

module _ {a b : Writer} where
  -- the same text, said in another way
  pub said : {s t : List ℕ} → t ≡ s → Writes a b s → Writes a b t
  said e = subst (Writes a b) (sym e)

  -- a text, and one behind it
  pub ◌then◌ : {c : Writer} {s t : List ℕ} → Writes a b s → Writes b c t → Writes a c (s ++ t)
  ◌then◌ {c} {s} {t} w v = record {
    same = v.same ∙ w.same;
    written =
        let d = a.buffer.now in
        let first = w.written in
        let long : length (overwrite d a.at s) < 18446744073709551616 = rw overwrite_length (fits a).length_fits in
        let second = v.written in
        let l = length-append s t in
        record {
          holds = second.holds ∙ rw (first.holds, first.moved) (overwrite_counted (overwrite d a.at s) (a.at + length s) t long ∙ sym (overwrite_append d a.at s t));
          moved = omega (arith, first.moved, second.moved);
        };
  }

-- no text
pub nothing : {a : Writer} → Writes a a []
unfolding overwrite
nothing {a} = record { same = refl; written = record { holds = refl; moved = omega (arith, (fits a).place_fits) } }

-- a text at the place of a buffer at which a writer began
pub at_place : {a b : Writer} {d d' s : List ℕ} {at n : ℕ} → a.buffer.now ≡ d → a.at ≡ at
    → Writes a b s → d' ≡ b.buffer.now → n ≡ b.at → WrittenAt d d' at s n
at_place e k w left m =
    let whole = w.written in
    record { holds = left ∙ rw (e, k) at whole.holds; moved = m ∙ rw k at whole.moved }

-- a text at the front of a buffer
pub at_front : {a b : Writer} {d d' s : List ℕ} {n : ℕ} → a.buffer.now ≡ d → a.at ≡ 0 → length d < 18446744073709551616
    → Writes a b s → d' ≡ b.buffer.now → n ≡ b.at → WrittenAt d d' 0 s n
at_front e k h = at_place e k

-- ------------------------------------------------------------------ part by part

-- of a text that is to be written, begun by the writer a, this remains for the writer b
pub record Remains (a b : Writer) (whole rest : List ℕ) : Type 0 where
  pub finish : {c : Writer} → Writes b c rest → Writes a c whole

-- all, before a byte is written
pub all_remains : {a : Writer} {s : List ℕ} → Remains a a s s
all_remains = record { finish = λ w. w }

-- a part is written
pub onward : {a b c : Writer} {whole rest s t : List ℕ} → rest ≡ s ++ t → Remains a b whole rest → Writes b c s → Remains a c whole t
onward e r w = record { finish = λ v. r.finish (said e (w then v)) }

-- nothing remains
pub done : {a b : Writer} {whole rest : List ℕ} → rest ≡ [] → Remains a b whole rest → Writes a b whole
done e r = r.finish (said e nothing)
