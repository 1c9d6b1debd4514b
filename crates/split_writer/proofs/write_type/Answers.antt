-- The word of each kind, then its numbers.
use Rattle.spec.specs.Text.{bytes}
use Rattle.writer.proofs.Buffer.{said}
use Rattle.split_writer.proofs.Parts.{int_parts, ref_parts, lock_parts, tid_parts, sem_parts, rwlock_parts}
use Rattle.split_writer.proofs.write_type.Goals as goal

pub returns-in-Int : goal.returns-in-Int
unfolding bytes
returns-in-Int c = said (int_parts _ c.in-Int.is) c.write_word.ensures

pub returns-in-Ref : goal.returns-in-Ref
unfolding bytes
returns-in-Ref c = said (ref_parts _ c.in-Ref.is) c.write_word-in-Ref.ensures

pub returns-in-Lock : goal.returns-in-Lock
unfolding bytes
returns-in-Lock c = said (lock_parts _ c.in-Lock.is c.out_number.ensures) c.write_word-in-Lock.ensures

pub returns-in-Tid : goal.returns-in-Tid
unfolding bytes
returns-in-Tid c = said (tid_parts _ c.in-Tid.is) c.write_word-in-Tid.ensures

pub returns-in-Sem : goal.returns-in-Sem
unfolding bytes
returns-in-Sem c = said (sem_parts _ c.in-Sem.is) c.write_word-in-Sem.ensures

pub returns-in-Rwlock : goal.returns-in-Rwlock
unfolding bytes
returns-in-Rwlock c = said (rwlock_parts _ c.in-Rwlock.is) c.write_word-in-Rwlock.ensures
