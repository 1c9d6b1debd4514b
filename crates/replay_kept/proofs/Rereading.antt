-- What was kept is read back as it was.
use Rattle.std.proofs.Common.{Option, None, Some}
use Prim.Native.Nat.{ℕ}
use mathlib.Core.Path.{◌≡◌, sym, ◌∙◌}
use mathlib.Core.List.{List}
use native.Mathlib.Omega.{arith}
use lib.ListN.{length, get_or}
use lib.Seq.{ext_get_or}
use Rattle.lexer.specs.Numbers.{stored}
use Rattle.threads.specs.declared.Record.{Record}
use Rattle.threads.specs.declared.Threads.{Threads}
use Rattle.threads.specs.Records.{no_record}
use Rattle.replay_theory.specs.declared.Race.{Race}
use Rattle.replay_answers.specs.Numbers.{race_numbers}
use Rattle.replay_kept.specs.Kept.{race_in, RecordsKept, RaceKept}

-- ------------------------------------------------------------------ the race

pub found_back : (w : List ℕ) (race : Option Race) → (get_or w 6 0 ≡ 0 → ⊥) → RaceKept race w → Some (record { state = get_or w 7 0; lower = stored (get_or w 8 0); other = stored (get_or w 9 0) }) ≡ race
unfolding race_in race_numbers
found_back w None z K = absurd (z K.raced)
found_back w (Some race) z K = let e = K.told in λ k. Some (record { state = (e k).state; lower = (e k).first; other = (e k).second })

-- ------------------------------------------------------------------ the threads

records_back : (w : List ℕ) (rs ss : List Record) → length rs ≡ 16 → length ss ≡ 16 → RecordsKept rs w → RecordsKept ss w → rs ≡ ss
records_back w rs ss l m K L = ext_get_or no_record rs ss (l ∙ sym m) (λ i h. sym (K i (omega (arith, h, l))) ∙ L i (omega (arith, h, l)))

pub threads_back : (w : List ℕ) (T U : Threads) → RecordsKept T.records w × (length T.records ≡ 16) × (T.count ≡ get_or w 10 0) → RecordsKept U.records w → length U.records ≡ 16 → get_or w 10 0 ≡ U.count → T ≡ U
threads_back w T U (K, l, c) L m d = λ i. record { records = records_back w T.records U.records l m K L i; count = (c ∙ d) i }
