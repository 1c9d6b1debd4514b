-- A line of a trace does to the replay on the machine what it does to the run that this stands for.
use Rattle.std.proofs.Common.{Option, None, Some, option_map, slice_get}
use Prim.Native.Nat.{ℕ, suc}
use mathlib.Core.Path.{◌≡◌, refl, sym, ◌∙◌, ap, subst}
use mathlib.Core.Bool.{Bool, true, false}
use mathlib.Core.List.{List, [], ◌∷◌, ◌++◌}
use native.Mathlib.Omega.{arith}
use lib.ListN.{set, length}
use Rattle.calculus.specs.Expression.{Redex, next_word}
use Rattle.calculus.specs.State.{State, Thread, Part, Move, update, remove}
use Rattle.calculus.specs.Reduction.{◌>>=◌, word_of, reduce}
use Rattle.calculus.proofs.Laws.Maps.{some_injective, none_is_not_some}
use Rattle.calculus.proofs.Laws.Places.{set_elsewhere}
use Rattle.replay_theory.specs.Trace.{TraceLine}
use Rattle.replay_theory.specs.Paths.{Path, next_path}
use Rattle.replay_theory.specs.Run as run
use Rattle.replay_theory.specs.Run.{Run, place_of, part_chosen, finished_for, next_name, unary_traits, traits, move_of, Effect, plain, spawns, joins, opens, makes, effect, open_calls, entries_after, calls_after, one_more_if, things_after, after}
use Rattle.replay_theory.proofs.Lists.{length_set, length_append}
use Rattle.replay_machine.specs.Environment.{Env}
use Rattle.replay_machine.specs.Control.{Frame, Word, redex, Control, done, at, decode, next_redex}
use Rattle.replay_machine.specs.State.{MachineThread, Machine, decode_thread, live, rank, decode_state, decode_procedures, running}
use Rattle.replay_machine.specs.Step.{is_done, goes_to, add_thread, as_joined, mark_joined, lowest, step}
use Rattle.replay_machine.specs.Kept.{ThreadKept, Kept}
use Rattle.replay_machine.specs.Replay.{Replay, word_of as word_of_thread, stepped}
use Rattle.replay_machine.proofs.Questions.{asks}
use Rattle.replay_machine.proofs.Decoding.{word_of_decoded}
use Rattle.replay_theory.proofs.Lists.{every_at}
use Rattle.replay_machine.proofs.Marks.{call_paths, word_path, Tells, path_of_decoded}
use Rattle.replay_machine.proofs.Opened.{open_remove, calls_go_on, calls_taken, calls_spawned}
use Rattle.replay_machine.proofs.Places.{LiveAt, live_at, live_join, live_append, rank_set}
use Rattle.replay_machine.proofs.Joining.{lowest_found, joiner_is_another}
use Rattle.replay_machine.proofs.Exact.{ListsLowest, step_exact}
use Rattle.replay_machine.proofs.After.{After, goes, called, made, spawned, joined, step_moves}
use Rattle.replay_machine.proofs.Stepped.{same_word}
use Rattle.replay_machine.proofs.Books.{numbers_from, calls_from, run_of, place_of_live, no_place, lowest_is_first, numbers_set}

-- ---- The run after a step

pub same_run : {r r' : Run} → r.procedures ≡ r'.procedures → r.state ≡ r'.state → r.numbers ≡ r'.numbers → r.calls ≡ r'.calls →
    r.threads ≡ r'.threads → r.things ≡ r'.things → r ≡ r'
same_run p a b o c d = λ z. record { procedures = p z; state = a z; numbers = b z; calls = o z; threads = c z; things = d z }

word_means_running : (b : Control) (w : Redex) → next_redex b ≡ Some w → is_done b ≡ false
word_means_running (done v) w h = none_is_not_some h
word_means_running (at σ x K) w h = refl

-- Thread i does the word w.
module _ (R : Replay) (i : ℕ) (t : MachineThread) (h : LiveAt R.machine.threads i t) (w : Redex) (next : next_redex t.control ≡ Some w) (c : Part) where
  abbrev M : Machine
  M = R.machine

  abbrev ts : List MachineThread
  ts = M.threads

  abbrev m : Move
  m = move_of (run_of R) (rank ts i) w c

  abbrev Same : Effect → Machine → Type 0
  Same e N = after (run_of R) m (word_path t.control) e (decode_state N) ≡ run_of (record { machine = N; things = things_after e R.things })

  -- Of a join, the move lists the lowest finished thread.
  lists_lowest : (n j : ℕ) → (traits w).joining ≡ Some n → lowest n ts ≡ Some j → m.finished ≡ rank ts j
  unfolding move_of finished_for
  lists_lowest n j named found = ap (λ (o : Option ℕ). finished_for o (live ts)) named ∙ lowest_is_first ts 0 n j found

  module _ (b : Control) where
    abbrev moved : MachineThread
    moved = running t.tid b

    numbers_stay : numbers_from 0 (set ts i moved) ≡ numbers_from 0 ts
    numbers_stay = numbers_set ts i t moved h refl

    joined_number : (n j : ℕ) (u : MachineThread) → (traits w).joining ≡ Some n → lowest n ts ≡ Some j → slice_get ts j ≡ Some u →
        remove (numbers_from 0 ts) m.finished ≡ numbers_from 0 (set (set ts i moved) j (as_joined u))
    joined_number n j u named found there =
        let L = lowest_found n ts j found in
        let is : L.thread ≡ u = some_injective (sym L.there ∙ there) in
        let elsewhere = set_elsewhere ts i j moved (joiner_is_another n ts i j t h.there (word_means_running t.control w next) L) in
        ap (remove (numbers_from 0 ts)) (lists_lowest n j named found ∙ sym (rank_set ts i j t moved h refl))
        ∙ ap (λ (l : List ℕ). remove l (rank (set ts i moved) j)) (sym numbers_stay)
        ∙ sym (live_join (λ z x. z) (set ts i moved) 0 j u (as_joined u)
        (record { there = elsewhere ∙ there; not_joined = ap (λ (x : MachineThread). x.joined) (sym is) ∙ L.can.not_joined }) refl)

    joined_calls : (n j : ℕ) (u : MachineThread) → (traits w).joining ≡ Some n → lowest n ts ≡ Some j → slice_get ts j ≡ Some u → Tells b (call_paths t.control) →
        open_calls (live (set (set ts i moved) j (as_joined u))) (remove (calls_from 0 ts) m.finished) ≡ calls_from 0 (set (set ts i moved) j (as_joined u))
    joined_calls n j u named found there tells =
        let L = lowest_found n ts j found in
        let is : L.thread ≡ u = some_injective (sym L.there ∙ there) in
        let elsewhere = set_elsewhere ts i j moved (joiner_is_another n ts i j t h.there (word_means_running t.control w next) L) in
        let there_now : LiveAt (set ts i moved) j u =
        record { there = elsewhere ∙ there; not_joined = ap (λ (x : MachineThread). x.joined) (sym is) ∙ L.can.not_joined } in
        ap (λ (p : ℕ). open_calls (live (set (set ts i moved) j (as_joined u))) (remove (calls_from 0 ts) p))
        (lists_lowest n j named found ∙ sym (rank_set ts i j t moved h refl))
        ∙ ap (λ (l : List Thread). open_calls l (remove (calls_from 0 ts) (rank (set ts i moved) j)))
        (live_join (λ z x. decode_thread x) (set ts i moved) 0 j u (as_joined u) there_now refl)
        ∙ open_remove (live (set ts i moved)) (calls_from 0 ts) (rank (set ts i moved) j)
        ∙ ap (λ (l : List (List Path)). remove l (rank (set ts i moved) j)) (calls_go_on ts i t.tid t h b tells)
        ∙ sym (live_join (λ z x. call_paths x.control) (set ts i moved) 0 j u (as_joined u) there_now refl)

  with_effect : (N : Machine) (e : Effect) → effect w ≡ e → Same e N → Same (effect w) N
  with_effect N e is same = subst (λ (f : Effect). Same f N) (sym is) same

  books_alike : {N : Machine} → After M i t.tid (call_paths t.control) (word_path t.control) w N → Same (effect w) N
  unfolding after entries_after calls_after one_more_if things_after move_of
  books_alike (goes names b e u ok tells) =
      with_effect (goes_to M i t.tid names b) plain e
      (same_run refl refl (sym (numbers_stay b)) (calls_go_on ts i t.tid t h b tells) (sym (length_set ts i (moved b))) refl)
  books_alike (called b e ok tells) =
      with_effect (goes_to M i t.tid M.names b) opens e
      (same_run refl refl (sym (numbers_stay b)) (calls_taken ts i t.tid t h b (word_path t.control) tells) (sym (length_set ts i (moved b))) refl)
  books_alike (made k new b e ok tells) =
      with_effect (record { procedures = M.procedures; threads = set ts i (moved b); names = update M.names M.next new; next = suc M.next }) (makes k) e
      (same_run refl refl (sym (numbers_stay b)) (calls_go_on ts i t.tid t h b tells) (sym (length_set ts i (moved b))) refl)
  books_alike (spawned n b b' e ok ok' tells tells') =
      with_effect (add_thread (running n b') (goes_to M i t.tid M.names b)) spawns e
      (same_run refl refl
      (ap (λ (l : List ℕ). l ++ (length ts ∷ [])) (sym (numbers_stay b))
      ∙ ap (λ (k : ℕ). numbers_from 0 (set ts i (moved b)) ++ (k ∷ [])) (omega (arith, length_set ts i (moved b)))
      ∙ sym (live_append (λ z x. z) (set ts i (moved b)) 0 (running n b') refl))
      (calls_spawned ts i t.tid t h b n b' tells tells')
      (sym (length_append (set ts i (moved b)) (running n b') ∙ ap suc (length_set ts i (moved b)))) refl)
  books_alike (joined n j u b e named found there ok tells) =
      with_effect (mark_joined j u (goes_to M i t.tid M.names b)) joins e
      (same_run refl refl (joined_number b n j u named found there) (joined_calls b n j u named found there tells)
      (sym (length_set (set ts i (moved b)) j (as_joined u) ∙ length_set ts i (moved b))) refl)

-- ---- A line

module _ (R : Replay) (kept : Kept R.machine) (named : R.machine.next ≡ next_name R.things) (l : TraceLine) where
  abbrev here : Machine
  here = R.machine

  -- What a thread at place p does, in the run and on the machine.
  abbrev in_run : (p : ℕ) (q : Path) → Redex → Option Run
  in_run p q w = part_chosen w l.choice >>= λ c. reduce (decode_procedures here) (decode_state here) (move_of (run_of R) p w c) >>= λ s.
      Some (after (run_of R) (move_of (run_of R) p w c) q (effect w) s)

  abbrev on_machine : Redex → Option Replay
  on_machine w = part_chosen w l.choice >>= λ c. step here l.thread c >>= λ N.
      Some (record { machine = N; things = things_after (effect w) R.things })

  module _ (t : MachineThread) (h : LiveAt here.threads l.thread t) where
    lowest_listed : (w : Redex) (c : Part) → next_redex t.control ≡ Some w → (σ : Env) (x : Word) (K : List Frame) → t.control ≡ at σ x K →
        ListsLowest here (move_of (run_of R) (rank here.threads l.thread) w c) x
    unfolding traits unary_traits
    lowest_listed w c next σ x K is k n j join_on found =
        lists_lowest R l.thread t h w next c n j
        (ap (λ (x : Redex). (traits x).joining) (some_injective (sym next ∙ ap next_redex is) ∙ ap (redex σ) join_on)) found

    word_alike : (w : Redex) → next_redex t.control ≡ Some w → in_run (rank here.threads l.thread) (word_path t.control) w ≡ option_map run_of (on_machine w)
    unfolding move_of
    word_alike w next = asks run_of (part_chosen w l.choice) _ _ (λ c chosen.
        ap (λ (o : Option State). o >>= λ s. Some (after (run_of R) (move_of (run_of R) (rank here.threads l.thread) w c) (word_path t.control) (effect w) s))
        (step_exact here l.thread t (move_of (run_of R) (rank here.threads l.thread) w c) kept.procedures_kept
        (every_at ThreadKept here.threads l.thread t kept.threads_kept h.there) (kept.unused_from here.next (omega arith)) h refl (sym named)
        (lowest_listed w c next))
        ∙ stepped_alike c (step here l.thread c) refl)
      where
        stepped_alike : (c : Part) (o : Option Machine) → step here l.thread c ≡ o →
            (option_map decode_state o >>= λ s. Some (after (run_of R) (move_of (run_of R) (rank here.threads l.thread) w c) (word_path t.control) (effect w) s))
            ≡ option_map run_of (o >>= λ N. Some (record { machine = N; things = things_after (effect w) R.things }))
        stepped_alike c None q = refl
        stepped_alike c (Some N) q = ap Some (books_alike R l.thread t h w next c (moved_after c N q))
          where
            moved_after : (d : Part) (N : Machine) → step here l.thread d ≡ Some N → After here l.thread t.tid (call_paths t.control) (word_path t.control) w N
            moved_after d N q =
                let D = step_moves here l.thread d N kept q in
                subst (λ (x : Redex). After here l.thread t.tid (call_paths t.control) (word_path t.control) x N) (same_word {N = N} l D t h.there next)
                (subst (λ (u : MachineThread). After here l.thread u.tid (call_paths u.control) (word_path u.control) D.word N) (some_injective (sym D.live_there.there ∙ h.there)) D.after)

    live_alike : (next_redex t.control >>= in_run (rank here.threads l.thread) (word_path t.control)) ≡ option_map run_of (next_redex t.control >>= on_machine)
    live_alike = asks run_of (next_redex t.control) _ _ word_alike

  abbrev in_run_at : (p : ℕ) → Option Run
  in_run_at p = slice_get (live here.threads) p >>= λ u. word_of (next_word u.body) >>= in_run p (next_path u.body)

  -- The thread is there and not joined.
  present_alike : (t : MachineThread) → LiveAt here.threads l.thread t →
      (place_of l.thread (numbers_from 0 here.threads) >>= in_run_at) ≡ option_map run_of (next_redex t.control >>= on_machine)
  present_alike t h =
      ap (λ (o : Option ℕ). o >>= in_run_at)
      (ap (λ (n : ℕ). place_of n (numbers_from 0 here.threads)) (omega arith) ∙ place_of_live here.threads 0 l.thread t h)
      ∙ ap (λ (o : Option Thread). o >>= λ u. word_of (next_word u.body) >>= in_run (rank here.threads l.thread) (next_path u.body))
      (live_at (λ i u. decode_thread u) here.threads 0 l.thread t h)
      ∙ ap (λ (o : Option Redex). o >>= in_run (rank here.threads l.thread) (next_path (decode t.control))) (word_of_decoded t.control)
      ∙ ap (λ (q : Path). next_redex t.control >>= in_run (rank here.threads l.thread) q) (path_of_decoded t.control)
      ∙ live_alike t h

  absent_alike : ((t : MachineThread) → slice_get here.threads l.thread ≡ Some t → t.joined ≡ true) →
      (place_of l.thread (numbers_from 0 here.threads) >>= in_run_at) ≡ None
  absent_alike h =
      ap (λ (o : Option ℕ). o >>= in_run_at) (ap (λ (n : ℕ). place_of n (numbers_from 0 here.threads)) (omega arith) ∙ no_place here.threads 0 l.thread h)

  pub line_alike : run.stepped (run_of R) l ≡ option_map run_of (stepped R l)
  unfolding run.stepped stepped word_of_thread
  line_alike = by_cases (slice_get here.threads l.thread) refl
    where
      by_joined : (t : MachineThread) → slice_get here.threads l.thread ≡ Some t → (b : Bool) → t.joined ≡ b →
          (place_of l.thread (numbers_from 0 here.threads) >>= in_run_at) ≡ option_map run_of (word_of_thread b t >>= on_machine)
      by_joined t q true e = absent_alike (λ u z. ap (λ (x : MachineThread). x.joined) (some_injective (sym z ∙ q)) ∙ e)
      by_joined t q false e = present_alike t (record { there = q; not_joined = e })

      by_cases : (o : Option MachineThread) → slice_get here.threads l.thread ≡ o →
          (place_of l.thread (numbers_from 0 here.threads) >>= in_run_at) ≡ option_map run_of (o >>= λ t. word_of_thread t.joined t >>= on_machine)
      by_cases None q = absent_alike (λ t z. none_is_not_some (sym q ∙ z))
      by_cases (Some t) q = by_joined t q t.joined refl
