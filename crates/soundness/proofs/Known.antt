-- Document 01's P, and a program with every word and two procedures, are run as the terms that they list, constants and all.
use Rattle.std.proofs.Common.{Ok}
use mathlib.Core.Path.{◌≡◌, refl}
use mathlib.Core.List.{[], ◌∷◌}
use Prim.Native.String.{String, ◌++◌}
use Rattle.spec.specs.Reading.{◌>>=◌}
use Rattle.spec.specs.Program.{program}
use Rattle.spec.specs.Pairs.KnownPairs.{barred, P, found}
use Rattle.calculus.specs.Expression.{value as constant, int, var, let_in, if, while, spawn, write, unary, join, ref, read, lock, unlock, post, wait, hold, rdlock, rdunlock, wrlock, wrunlock, call, nullary, newtid, newlock, newsem, newrwlock}
use Rattle.soundness.specs.Erasure.{erase, erase_program}

pub P_is_run : (program (barred P) >>= λ p. Ok (erase_program p))
    ≡ Ok (record {
      procedures = [];
      root = let_in 0 (unary ref (constant (int 0)))
          (let_in 1 (nullary newtid)
          (let_in 2 (spawn (var 1) (unary read (var 0)))
          (let_in 3 (unary join (var 1))
          (write (var 0) (constant (int 1))))));
    })
unfolding found P erase
P_is_run = refl

-- no two words, parts or numbers of it are alike where they could be taken for each other
unfoldable pub every_word : String
every_word =
    "P2,53,2|proc,0|if,0|read,0|var,0|int,7|proc,1|write,0|var,1|call,0|var,1|"
    ++ "let,2|newlock,0|let,3|newsem,0|let,4|newrwlock,3|let,5|newtid,0|let,6|ref,0|int,5|let,7|spawn,0|var,5|call,1|var,6|"
    ++ "let,8|lock,0|var,2|let,9|unlock,0|var,2|let,10|post,0|var,3|let,11|wait,0|var,3|"
    ++ "let,12|rdlock,0|var,4|let,13|rdunlock,0|var,4|let,14|wrlock,0|var,4|let,15|wrunlock,0|var,4|let,16|join,0|var,5|while,0|int,9|"

pub every_word_is_run : (program (barred every_word) >>= λ p. Ok (erase_program p))
    ≡ Ok (record {
      procedures = record { parameter = 0; body = if (unary read (var 0)) (constant (int 7)) }
          ∷ record { parameter = 1; body = write (var 1) (unary (call 0) (var 1)) }
          ∷ [];
      root = let_in 2 (nullary newlock)
          (let_in 3 (nullary newsem)
          (let_in 4 (nullary (newrwlock 3))
          (let_in 5 (nullary newtid)
          (let_in 6 (unary ref (constant (int 5)))
          (let_in 7 (spawn (var 5) (unary (call 1) (var 6)))
          (let_in 8 (unary lock (var 2))
          (let_in 9 (unary unlock (var 2))
          (let_in 10 (unary post (var 3))
          (let_in 11 (unary wait (var 3))
          (let_in 12 (unary (hold rdlock) (var 4))
          (let_in 13 (unary (hold rdunlock) (var 4))
          (let_in 14 (unary (hold wrlock) (var 4))
          (let_in 15 (unary (hold wrunlock) (var 4))
          (let_in 16 (unary join (var 5))
          (while (constant (int 9)))))))))))))))));
    })
unfolding found every_word erase
every_word_is_run = refl
