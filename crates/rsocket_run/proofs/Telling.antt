-- What a run that stopped has written, by its status.
use Rattle.std.proofs.Common.{◌⊎◌, ◌≡◌, ◌≢◌, Bool, ℕ, ◌^◌, ◌-◌, List, ◌++◌, Option, Err, inl, inr, ⊎_elim, refl, ap, subst, arith}
use Rattle.std.proofs.lemmas.Bool.{cases_lt}
use Rattle.std.proofs.lemmas.Grind.{common_steps}
use Rattle.outside.specs.Causes.{Rose, one_more}
use Rattle.outside.specs.Streams.{ByteStream}
use Rattle.tape.specs.declared.entry.Entry.{Entry}
use Rattle.command_line.specs.declared.task.Task.{Task}
use Rattle.rsocket_run.specs.declared.stop.Stop.{Stop}
use Rattle.rsocket_run.specs.declared.stop.Stop.TheVariants as stops
use Rattle.rsocket_run.specs.Run.{IsDone, IsDue, IsRightInput, TellsBadFrame, TellsWrongLine, bad_frame_line, read_fault_line, wrong_line}
use Rattle.rsocket_run.specs.Stops.{IsTold, StoppedBy, TellsStop, faults_after_work}
use Rattle.rsocket_output.specs.Written.{CutOff, CutsOffSome, WritesSome}
use Rattle.rsocket_run.proofs.Right.{no_bad_frame, no_wrong_line}

cut : (known : ℕ) (text : List ℕ) (old new : ByteStream) (status : ℕ) → known ≢ 5 → IsTold known text old new status → status ≡ 5 → CutOff text old new
cut known text old new status a told is = grind (arith, common_steps)

pub stop_wrong_line : (task : Task) (input : List ℕ) (left : Option (List ℕ)) (stop : Stop) (text : List ℕ) (old new : ByteStream) (status : ℕ) → StoppedBy task input left stop text → TellsStop stop text old new status → status ≡ 3 → WritesSome (TellsWrongLine task input left) old new
stop_wrong_line task input left stops.Usage text old new status by t is = absurd by
stop_wrong_line task input left (stops.WrongLine number) text old new status by t is =
    (text ++ wrong_line number, (number, by.0, ap (λ (t : List ℕ). t ++ wrong_line number) by.1), grind (arith, common_steps))
stop_wrong_line task input left stops.ReadFault text old new status by t is = absurd (grind arith)
stop_wrong_line task input left stops.OutOfMemory text old new status by t is = absurd (omega arith)
stop_wrong_line task input left (stops.BadFrame place bad) text old new status by t is = absurd (grind arith)

pub stop_bad_frame : (task : Task) (input : List ℕ) (left : Option (List ℕ)) (stop : Stop) (text : List ℕ) (old new : ByteStream) (status : ℕ) → StoppedBy task input left stop text → TellsStop stop text old new status → status ≡ 11 → WritesSome (TellsBadFrame task input left) old new
stop_bad_frame task input left stops.Usage text old new status by t is = absurd by
stop_bad_frame task input left (stops.WrongLine number) text old new status by t is = absurd (grind arith)
stop_bad_frame task input left stops.ReadFault text old new status by t is = absurd (grind arith)
stop_bad_frame task input left stops.OutOfMemory text old new status by t is = absurd (omega arith)
stop_bad_frame task input left (stops.BadFrame place bad) text old new status by t is =
    (text ++ bad_frame_line place bad, (place, bad, text, by, refl), grind (arith, common_steps))

pub stop_cut_off : (task : Task) (text : List ℕ) (input input' : ByteStream) (fresh : Option (List Entry)) (shelf shelf' : List (Option (List Entry))) (stop : Stop) (out : List ℕ) (old new : ByteStream) (status : ℕ) → input'.faults ≡ faults_after_work (Err stop) input.faults → StoppedBy task text input'.told stop out → TellsStop stop out old new status → status ≡ 5 → CutsOffSome (IsDue task text input input' fresh shelf shelf') old new
stop_cut_off task text input input' fresh shelf shelf' stops.Usage out old new status faults by t is = absurd by
stop_cut_off task text input input' fresh shelf shelf' (stops.WrongLine number) out old new status faults by t is =
    (out ++ wrong_line number, inr (inr (inl (number, by.0, ap (λ (t : List ℕ). t ++ wrong_line number) by.1))), cut 3 _ old new status (λ e. cc) t is)
stop_cut_off task text input input' fresh shelf shelf' stops.ReadFault out old new status faults by (inl told) is = let f = told.0 in cc
stop_cut_off task text input input' fresh shelf shelf' stops.ReadFault out old new status faults by (inr cut_off) is = (read_fault_line, inr (inr (inr (faults, refl))), cut_off.1)
stop_cut_off task text input input' fresh shelf shelf' stops.OutOfMemory out old new status faults by t is = let f = t.0 in cc
stop_cut_off task text input input' fresh shelf shelf' (stops.BadFrame place bad) out old new status faults by t is =
    (out ++ bad_frame_line place bad, inr (inl (place, bad, out, by, refl)), cut 11 _ old new status (λ e. cc) t is)

rose_once : (old new : ℕ) → new ≡ one_more old → Rose old new
rose_once old new is = ⊎_elim (λ below. inl (omega (arith, below, is))) (λ above. inr (omega (arith, above, is))) (cases_lt old (2 ^ 64 - 1))

-- a run stops with nothing wrong and no fault only where memory runs out
pub stop_right : (task : Task) (input : List ℕ) (left : Option (List ℕ)) (stop : Stop) (before after : ℕ) (text : List ℕ) (old new : ByteStream) (status : ℕ) → StoppedBy task input left stop text → after ≡ faults_after_work (Err stop) before → TellsStop stop text old new status → IsRightInput task input → ¬ (Rose before after) → (status ≡ 0) ⊎ (status ≡ 6)
stop_right task input left stops.Usage before after text old new status by faults t right quiet = absurd by
stop_right task input left (stops.WrongLine number) before after text old new status by faults t right quiet = absurd (no_wrong_line task input left number right by.0)
stop_right task input left stops.ReadFault before after text old new status by faults t right quiet = absurd (quiet (rose_once before after faults))
stop_right task input left stops.OutOfMemory before after text old new status by faults t right quiet = inr t.0
stop_right task input left (stops.BadFrame place bad) before after text old new status by faults t right quiet = absurd (no_bad_frame task input left place bad text right by)

-- what a run whose work is done has written, where a write failed
pub done_cut_off : (task : Task) (text : List ℕ) (input input' : ByteStream) (fresh : Option (List Entry)) (shelf shelf' : List (Option (List Entry))) (given out : List ℕ) (old new : ByteStream) (status : ℕ) (W : Type 0)
    → IsDone task text input'.told fresh shelf shelf' out → given ≡ out → ((status ≡ 0) × W) ⊎ ((status ≡ 5) × CutOff given old new) → status ≡ 5 → CutsOffSome (IsDue task text input input' fresh shelf shelf') old new
done_cut_off task text input input' fresh shelf shelf' given out old new status W done same (inl zero) five = let z = zero.0 in cc
done_cut_off task text input input' fresh shelf shelf' given out old new status W done same (inr cut_off) five = (out, inl done, subst (λ (t : List ℕ). CutOff t old new) same cut_off.1)

-- the same of any text that was to be written
pub all_cut_off : (P : List ℕ → Type 0) (given out : List ℕ) (old new : ByteStream) (status : ℕ) (W : Type 0)
    → P out → given ≡ out → ((status ≡ 0) × W) ⊎ ((status ≡ 5) × CutOff given old new) → status ≡ 5 → CutsOffSome P old new
all_cut_off P given out old new status W due same (inl zero) five = let z = zero.0 in cc
all_cut_off P given out old new status W due same (inr cut_off) five = (out, due, subst (λ (t : List ℕ). CutOff t old new) same cut_off.1)

-- the shelf after a run whose work is done
pub done_back : (Same : Type 0) (Asked Got : Bool → Type 0) (E W C : Type 0) (status : ℕ) → Same ⊎ ((threads : Bool) × Asked threads × Got threads × E) → ((status ≡ 0) × W) ⊎ ((status ≡ 5) × C)
    → Same ⊎ ((threads : Bool) × Asked threads × Got threads × ((status ≡ 0) ⊎ ((status ≡ 5) ⊎ (status ≡ 6))))
done_back Same Asked Got E W C status (inl same) told = inl same
done_back Same Asked Got E W C status (inr (threads, asked, got, fine)) (inl zero) = inr (threads, asked, got, inl zero.0)
done_back Same Asked Got E W C status (inr (threads, asked, got, fine)) (inr five) = inr (threads, asked, got, inr (inl five.0))
