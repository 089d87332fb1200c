-- How the end of a call is told, by its status.
use Rattle.std.proofs.Common.{◌≡◌, ◌∙◌, ◌⊎◌, ℕ, List, [], ◌++◌, Option, append-nil, inl, inr, refl, sym, ap, subst}
use Rattle.outside.specs.Links.{Shown}
use Rattle.outside.specs.declared.net.Ask.{Ask}
use Rattle.outside.specs.Causes.{one_more}
use Rattle.outside.specs.Streams.{ByteStream}
use Rattle.tape.specs.declared.entry.Entry.{Entry}
use Rattle.command_line.specs.declared.call_task.CallTask.{CallTask}
use Rattle.client.specs.declared.called.Called.{Called}
use Rattle.client.specs.declared.called.Called.TheVariants as called
use Rattle.rsocket_output.specs.Written.{CutOff, CutsOffSome, FailedWrites, Writes, WritesLine, WritesSome, memory_line}
use Rattle.rsocket_output.proofs.Moves.{cuts_off_more, writes_more}
use Rattle.rsocket_call.specs.Called.{Finished, FoundDead, WasIdle, WasPrinting, WasRefused, WasUnlinked}
use Rattle.rsocket_call.specs.Ended.{TextOf, EndsInMemory, HasCome, IsCallStatus, IsTelling, TellsMade, last_line, status_of}
use Rattle.rsocket_call.specs.declared.make.Made.{Made}
use Rattle.rsocket_call.specs.declared.make.Made.TheVariants as made

-- where it is not 5 or 6, the last line is written
by_status : (r : Called) (mid new : ByteStream) (status : ℕ) → (r ≡ called.OutOfMemory → ⊥) → IsTelling r mid new status → (status ≡ 5 → ⊥) → (status ≡ 6 → ⊥) → (status ≡ status_of r) × Writes (last_line r) mid new
by_status r mid new status some tell not_five not_six = elim (tell.told some) [
  | inl one ↦ one
  | inr two ↦ elim two [
    | inl five ↦ absurd (not_five five.0)
    | inr six ↦ absurd (not_six six.0)
  ]
]

wrong : (status a b : ℕ) → status ≡ a → status ≡ b → (a ≡ b → ⊥) → ⊥
wrong status a b is other some = some (sym is ∙ other)

pub done : (m : Made) (t : CallTask) (moments : Option (List ℕ)) (fresh : Option (List Entry)) (shelf shelf' : List (Option (List Entry))) (asks asks' : Option (List Ask)) (back back' : Option (List Shown)) (faults faults' : ℕ) (old mid new : ByteStream) (status : ℕ) → HasCome m t moments fresh shelf shelf' asks asks' back back' faults faults' old mid → TellsMade m mid new status → status ≡ 0 → WritesSome (Finished t moments fresh shelf shelf' asks asks' back back') old new
done made.WriteFault t moments fresh shelf shelf' asks asks' back back' faults faults' old mid new status h tell is = absurd (wrong status 5 0 tell.0 is (λ e. cc))
done (made.Called called.OutOfMemory) t moments fresh shelf shelf' asks asks' back back' faults faults' old mid new status h tell is = absurd (wrong status 6 0 (tell.memory refl).0 is (λ e. cc))
done (made.Called called.Finished) t moments fresh shelf shelf' asks asks' back back' faults faults' old mid new status h tell is =
    let line = by_status called.Finished mid new status (λ e. cc) tell (λ five. wrong status 0 5 is five (λ e. cc)) (λ six. wrong status 0 6 is six (λ e. cc)) in
    (h.0, h.1, subst (λ (text : List ℕ). Writes text old new) (append-nil h.0) (writes_more old mid new h.0 [] h.2 line.1))
done (made.Called (called.Refused why)) t moments fresh shelf shelf' asks asks' back back' faults faults' old mid new status h tell is = absurd (wrong status 7 0 (by_status (called.Refused why) mid new status (λ e. cc) tell (λ five. wrong status 0 5 is five (λ e. cc)) (λ six. wrong status 0 6 is six (λ e. cc))).0 is (λ e. cc))
done (made.Called called.Net) t moments fresh shelf shelf' asks asks' back back' faults faults' old mid new status h tell is = absurd (wrong status 8 0 (by_status called.Net mid new status (λ e. cc) tell (λ five. wrong status 0 5 is five (λ e. cc)) (λ six. wrong status 0 6 is six (λ e. cc))).0 is (λ e. cc))
done (made.Called (called.Dead last)) t moments fresh shelf shelf' asks asks' back back' faults faults' old mid new status h tell is = absurd (wrong status 9 0 (by_status (called.Dead last) mid new status (λ e. cc) tell (λ five. wrong status 0 5 is five (λ e. cc)) (λ six. wrong status 0 6 is six (λ e. cc))).0 is (λ e. cc))
done (made.Called (called.Idle n)) t moments fresh shelf shelf' asks asks' back back' faults faults' old mid new status h tell is = absurd (wrong status 10 0 (by_status (called.Idle n) mid new status (λ e. cc) tell (λ five. wrong status 0 5 is five (λ e. cc)) (λ six. wrong status 0 6 is six (λ e. cc))).0 is (λ e. cc))

pub refused : (m : Made) (t : CallTask) (moments : Option (List ℕ)) (fresh : Option (List Entry)) (shelf shelf' : List (Option (List Entry))) (asks asks' : Option (List Ask)) (back back' : Option (List Shown)) (faults faults' : ℕ) (old mid new : ByteStream) (status : ℕ) → HasCome m t moments fresh shelf shelf' asks asks' back back' faults faults' old mid → TellsMade m mid new status → status ≡ 7 → WritesSome (WasRefused t moments fresh shelf shelf' asks asks' back back') old new
refused made.WriteFault t moments fresh shelf shelf' asks asks' back back' faults faults' old mid new status h tell is = absurd (wrong status 5 7 tell.0 is (λ e. cc))
refused (made.Called called.OutOfMemory) t moments fresh shelf shelf' asks asks' back back' faults faults' old mid new status h tell is = absurd (wrong status 6 7 (tell.memory refl).0 is (λ e. cc))
refused (made.Called called.Finished) t moments fresh shelf shelf' asks asks' back back' faults faults' old mid new status h tell is = absurd (wrong status 0 7 (by_status called.Finished mid new status (λ e. cc) tell (λ five. wrong status 7 5 is five (λ e. cc)) (λ six. wrong status 7 6 is six (λ e. cc))).0 is (λ e. cc))
refused (made.Called (called.Refused why)) t moments fresh shelf shelf' asks asks' back back' faults faults' old mid new status h tell is =
    let line = by_status (called.Refused why) mid new status (λ e. cc) tell (λ five. wrong status 7 5 is five (λ e. cc)) (λ six. wrong status 7 6 is six (λ e. cc)) in
    (h.0 ++ last_line (called.Refused why), h.1, writes_more old mid new h.0 (last_line (called.Refused why)) h.2 line.1)
refused (made.Called called.Net) t moments fresh shelf shelf' asks asks' back back' faults faults' old mid new status h tell is = absurd (wrong status 8 7 (by_status called.Net mid new status (λ e. cc) tell (λ five. wrong status 7 5 is five (λ e. cc)) (λ six. wrong status 7 6 is six (λ e. cc))).0 is (λ e. cc))
refused (made.Called (called.Dead last)) t moments fresh shelf shelf' asks asks' back back' faults faults' old mid new status h tell is = absurd (wrong status 9 7 (by_status (called.Dead last) mid new status (λ e. cc) tell (λ five. wrong status 7 5 is five (λ e. cc)) (λ six. wrong status 7 6 is six (λ e. cc))).0 is (λ e. cc))
refused (made.Called (called.Idle n)) t moments fresh shelf shelf' asks asks' back back' faults faults' old mid new status h tell is = absurd (wrong status 10 7 (by_status (called.Idle n) mid new status (λ e. cc) tell (λ five. wrong status 7 5 is five (λ e. cc)) (λ six. wrong status 7 6 is six (λ e. cc))).0 is (λ e. cc))

pub unlinked : (m : Made) (t : CallTask) (moments : Option (List ℕ)) (fresh : Option (List Entry)) (shelf shelf' : List (Option (List Entry))) (asks asks' : Option (List Ask)) (back back' : Option (List Shown)) (faults faults' : ℕ) (old mid new : ByteStream) (status : ℕ) → HasCome m t moments fresh shelf shelf' asks asks' back back' faults faults' old mid → TellsMade m mid new status → status ≡ 8 → WritesSome (WasUnlinked t moments fresh shelf shelf' asks asks' back back' faults faults') old new
unlinked made.WriteFault t moments fresh shelf shelf' asks asks' back back' faults faults' old mid new status h tell is = absurd (wrong status 5 8 tell.0 is (λ e. cc))
unlinked (made.Called called.OutOfMemory) t moments fresh shelf shelf' asks asks' back back' faults faults' old mid new status h tell is = absurd (wrong status 6 8 (tell.memory refl).0 is (λ e. cc))
unlinked (made.Called called.Finished) t moments fresh shelf shelf' asks asks' back back' faults faults' old mid new status h tell is = absurd (wrong status 0 8 (by_status called.Finished mid new status (λ e. cc) tell (λ five. wrong status 8 5 is five (λ e. cc)) (λ six. wrong status 8 6 is six (λ e. cc))).0 is (λ e. cc))
unlinked (made.Called (called.Refused why)) t moments fresh shelf shelf' asks asks' back back' faults faults' old mid new status h tell is = absurd (wrong status 7 8 (by_status (called.Refused why) mid new status (λ e. cc) tell (λ five. wrong status 8 5 is five (λ e. cc)) (λ six. wrong status 8 6 is six (λ e. cc))).0 is (λ e. cc))
unlinked (made.Called called.Net) t moments fresh shelf shelf' asks asks' back back' faults faults' old mid new status h tell is =
    let line = by_status called.Net mid new status (λ e. cc) tell (λ five. wrong status 8 5 is five (λ e. cc)) (λ six. wrong status 8 6 is six (λ e. cc)) in
    (h.0 ++ last_line called.Net, h.1, writes_more old mid new h.0 (last_line called.Net) h.2 line.1)
unlinked (made.Called (called.Dead last)) t moments fresh shelf shelf' asks asks' back back' faults faults' old mid new status h tell is = absurd (wrong status 9 8 (by_status (called.Dead last) mid new status (λ e. cc) tell (λ five. wrong status 8 5 is five (λ e. cc)) (λ six. wrong status 8 6 is six (λ e. cc))).0 is (λ e. cc))
unlinked (made.Called (called.Idle n)) t moments fresh shelf shelf' asks asks' back back' faults faults' old mid new status h tell is = absurd (wrong status 10 8 (by_status (called.Idle n) mid new status (λ e. cc) tell (λ five. wrong status 8 5 is five (λ e. cc)) (λ six. wrong status 8 6 is six (λ e. cc))).0 is (λ e. cc))

pub dead : (m : Made) (t : CallTask) (moments : Option (List ℕ)) (fresh : Option (List Entry)) (shelf shelf' : List (Option (List Entry))) (asks asks' : Option (List Ask)) (back back' : Option (List Shown)) (faults faults' : ℕ) (old mid new : ByteStream) (status : ℕ) → HasCome m t moments fresh shelf shelf' asks asks' back back' faults faults' old mid → TellsMade m mid new status → status ≡ 9 → WritesSome (FoundDead t moments fresh shelf shelf' asks asks' back back') old new
dead made.WriteFault t moments fresh shelf shelf' asks asks' back back' faults faults' old mid new status h tell is = absurd (wrong status 5 9 tell.0 is (λ e. cc))
dead (made.Called called.OutOfMemory) t moments fresh shelf shelf' asks asks' back back' faults faults' old mid new status h tell is = absurd (wrong status 6 9 (tell.memory refl).0 is (λ e. cc))
dead (made.Called called.Finished) t moments fresh shelf shelf' asks asks' back back' faults faults' old mid new status h tell is = absurd (wrong status 0 9 (by_status called.Finished mid new status (λ e. cc) tell (λ five. wrong status 9 5 is five (λ e. cc)) (λ six. wrong status 9 6 is six (λ e. cc))).0 is (λ e. cc))
dead (made.Called (called.Refused why)) t moments fresh shelf shelf' asks asks' back back' faults faults' old mid new status h tell is = absurd (wrong status 7 9 (by_status (called.Refused why) mid new status (λ e. cc) tell (λ five. wrong status 9 5 is five (λ e. cc)) (λ six. wrong status 9 6 is six (λ e. cc))).0 is (λ e. cc))
dead (made.Called called.Net) t moments fresh shelf shelf' asks asks' back back' faults faults' old mid new status h tell is = absurd (wrong status 8 9 (by_status called.Net mid new status (λ e. cc) tell (λ five. wrong status 9 5 is five (λ e. cc)) (λ six. wrong status 9 6 is six (λ e. cc))).0 is (λ e. cc))
dead (made.Called (called.Dead last)) t moments fresh shelf shelf' asks asks' back back' faults faults' old mid new status h tell is =
    let line = by_status (called.Dead last) mid new status (λ e. cc) tell (λ five. wrong status 9 5 is five (λ e. cc)) (λ six. wrong status 9 6 is six (λ e. cc)) in
    (h.0 ++ last_line (called.Dead last), h.1, writes_more old mid new h.0 (last_line (called.Dead last)) h.2 line.1)
dead (made.Called (called.Idle n)) t moments fresh shelf shelf' asks asks' back back' faults faults' old mid new status h tell is = absurd (wrong status 10 9 (by_status (called.Idle n) mid new status (λ e. cc) tell (λ five. wrong status 9 5 is five (λ e. cc)) (λ six. wrong status 9 6 is six (λ e. cc))).0 is (λ e. cc))

pub idle : (m : Made) (t : CallTask) (moments : Option (List ℕ)) (fresh : Option (List Entry)) (shelf shelf' : List (Option (List Entry))) (asks asks' : Option (List Ask)) (back back' : Option (List Shown)) (faults faults' : ℕ) (old mid new : ByteStream) (status : ℕ) → HasCome m t moments fresh shelf shelf' asks asks' back back' faults faults' old mid → TellsMade m mid new status → status ≡ 10 → WritesSome (WasIdle t moments fresh shelf shelf' asks asks' back back') old new
idle made.WriteFault t moments fresh shelf shelf' asks asks' back back' faults faults' old mid new status h tell is = absurd (wrong status 5 10 tell.0 is (λ e. cc))
idle (made.Called called.OutOfMemory) t moments fresh shelf shelf' asks asks' back back' faults faults' old mid new status h tell is = absurd (wrong status 6 10 (tell.memory refl).0 is (λ e. cc))
idle (made.Called called.Finished) t moments fresh shelf shelf' asks asks' back back' faults faults' old mid new status h tell is = absurd (wrong status 0 10 (by_status called.Finished mid new status (λ e. cc) tell (λ five. wrong status 10 5 is five (λ e. cc)) (λ six. wrong status 10 6 is six (λ e. cc))).0 is (λ e. cc))
idle (made.Called (called.Refused why)) t moments fresh shelf shelf' asks asks' back back' faults faults' old mid new status h tell is = absurd (wrong status 7 10 (by_status (called.Refused why) mid new status (λ e. cc) tell (λ five. wrong status 10 5 is five (λ e. cc)) (λ six. wrong status 10 6 is six (λ e. cc))).0 is (λ e. cc))
idle (made.Called called.Net) t moments fresh shelf shelf' asks asks' back back' faults faults' old mid new status h tell is = absurd (wrong status 8 10 (by_status called.Net mid new status (λ e. cc) tell (λ five. wrong status 10 5 is five (λ e. cc)) (λ six. wrong status 10 6 is six (λ e. cc))).0 is (λ e. cc))
idle (made.Called (called.Dead last)) t moments fresh shelf shelf' asks asks' back back' faults faults' old mid new status h tell is = absurd (wrong status 9 10 (by_status (called.Dead last) mid new status (λ e. cc) tell (λ five. wrong status 10 5 is five (λ e. cc)) (λ six. wrong status 10 6 is six (λ e. cc))).0 is (λ e. cc))
idle (made.Called (called.Idle n)) t moments fresh shelf shelf' asks asks' back back' faults faults' old mid new status h tell is =
    let line = by_status (called.Idle n) mid new status (λ e. cc) tell (λ five. wrong status 10 5 is five (λ e. cc)) (λ six. wrong status 10 6 is six (λ e. cc)) in
    (h.0 ++ last_line (called.Idle n), h.1, writes_more old mid new h.0 (last_line (called.Idle n)) h.2 line.1)

prints_of : (r : Called) (t : CallTask) (moments : Option (List ℕ)) (fresh : Option (List Entry)) (shelf shelf' : List (Option (List Entry))) (asks asks' : Option (List Ask)) (back back' : Option (List Shown)) (faults faults' : ℕ) (text : List ℕ) → (r ≡ called.OutOfMemory → ⊥) → TextOf r t moments fresh shelf shelf' asks asks' back back' faults faults' text → WasPrinting t moments fresh shelf shelf' asks asks' back back' (text ++ last_line r)
prints_of called.OutOfMemory t moments fresh shelf shelf' asks asks' back back' faults faults' text some c = absurd (some refl)
prints_of called.Finished t moments fresh shelf shelf' asks asks' back back' faults faults' text some c = record { past = c.past; links = c.links; call = c.call; more = []; prints = inl (append-nil text ∙ c.ended.1) }
prints_of (called.Refused why) t moments fresh shelf shelf' asks asks' back back' faults faults' text some c = record { past = c.past; links = c.links; call = c.call; more = _; prints = inr c.stops.1 }
prints_of called.Net t moments fresh shelf shelf' asks asks' back back' faults faults' text some c = record { past = c.past; links = c.links; call = c.call; more = _; prints = inr c.stops.1 }
prints_of (called.Dead last) t moments fresh shelf shelf' asks asks' back back' faults faults' text some c = record { past = c.past; links = c.links; call = c.call; more = _; prints = inr c.stops.1 }
prints_of (called.Idle n) t moments fresh shelf shelf' asks asks' back back' faults faults' text some c = record { past = c.past; links = c.links; call = c.call; more = _; prints = inr c.stops.1 }

cut_line : (r : Called) (t : CallTask) (moments : Option (List ℕ)) (fresh : Option (List Entry)) (shelf shelf' : List (Option (List Entry))) (asks asks' : Option (List Ask)) (back back' : Option (List Shown)) (faults faults' : ℕ) (old mid new : ByteStream) (status : ℕ) → (r ≡ called.OutOfMemory → ⊥) → (status_of r ≡ 5 → ⊥) → ((text : List ℕ) × TextOf r t moments fresh shelf shelf' asks asks' back back' faults faults' text × Writes text old mid) → IsTelling r mid new status → status ≡ 5
    → CutsOffSome (WasPrinting t moments fresh shelf shelf' asks asks' back back') old new
cut_line r t moments fresh shelf shelf' asks asks' back back' faults faults' old mid new status some not_five h tell is = elim (tell.told some) [
  | inl one ↦ absurd (not_five (sym one.0 ∙ is))
  | inr two ↦ elim two [
    | inl five ↦ (h.0 ++ last_line r, prints_of r t moments fresh shelf shelf' asks asks' back back' faults faults' h.0 some h.1, cuts_off_more old mid new h.0 (last_line r) h.2 five.1)
    | inr six ↦ absurd (wrong status 6 5 six.0 is (λ e. cc))
  ]
]

pub cut_off : (m : Made) (t : CallTask) (moments : Option (List ℕ)) (fresh : Option (List Entry)) (shelf shelf' : List (Option (List Entry))) (asks asks' : Option (List Ask)) (back back' : Option (List Shown)) (faults faults' : ℕ) (old mid new : ByteStream) (status : ℕ) → HasCome m t moments fresh shelf shelf' asks asks' back back' faults faults' old mid → TellsMade m mid new status → status ≡ 5 → CutsOffSome (WasPrinting t moments fresh shelf shelf' asks asks' back back') old new
cut_off made.WriteFault t moments fresh shelf shelf' asks asks' back back' faults faults' old mid new status h tell is = (h.0, h.1, subst (CutOff h.0 old) (sym tell.1) h.2)
cut_off (made.Called called.OutOfMemory) t moments fresh shelf shelf' asks asks' back back' faults faults' old mid new status h tell is = absurd (wrong status 6 5 (tell.memory refl).0 is (λ e. cc))
cut_off (made.Called called.Finished) t moments fresh shelf shelf' asks asks' back back' faults faults' old mid new status h tell is = cut_line called.Finished t moments fresh shelf shelf' asks asks' back back' faults faults' old mid new status (λ e. cc) (λ e. cc) h tell is
cut_off (made.Called (called.Refused why)) t moments fresh shelf shelf' asks asks' back back' faults faults' old mid new status h tell is = cut_line (called.Refused why) t moments fresh shelf shelf' asks asks' back back' faults faults' old mid new status (λ e. cc) (λ e. cc) h tell is
cut_off (made.Called called.Net) t moments fresh shelf shelf' asks asks' back back' faults faults' old mid new status h tell is = cut_line called.Net t moments fresh shelf shelf' asks asks' back back' faults faults' old mid new status (λ e. cc) (λ e. cc) h tell is
cut_off (made.Called (called.Dead last)) t moments fresh shelf shelf' asks asks' back back' faults faults' old mid new status h tell is = cut_line (called.Dead last) t moments fresh shelf shelf' asks asks' back back' faults faults' old mid new status (λ e. cc) (λ e. cc) h tell is
cut_off (made.Called (called.Idle n)) t moments fresh shelf shelf' asks asks' back back' faults faults' old mid new status h tell is = cut_line (called.Idle n) t moments fresh shelf shelf' asks asks' back back' faults faults' old mid new status (λ e. cc) (λ e. cc) h tell is

lines_in_memory : (text : List ℕ) (old mid new : ByteStream) → Writes text old mid → WritesLine memory_line mid new → EndsInMemory old new
lines_in_memory text old mid new w (inl whole) = (text, inl (writes_more old mid new text memory_line w whole))
lines_in_memory text old mid new w (inr part) = (text, inr (cuts_off_more old mid new text memory_line w part))

no_line : (r : Called) (old mid new : ByteStream) (status : ℕ) → (r ≡ called.OutOfMemory → ⊥) → (status_of r ≡ 6 → ⊥) → (text : List ℕ) → Writes text old mid → IsTelling r mid new status → status ≡ 6 → EndsInMemory old new
no_line r old mid new status some not_six text w tell is = elim (tell.told some) [
  | inl one ↦ absurd (not_six (sym one.0 ∙ is))
  | inr two ↦ elim two [
    | inl five ↦ absurd (wrong status 5 6 five.0 is (λ e. cc))
    | inr six ↦ lines_in_memory text old mid new w six.1
  ]
]

pub memory : (m : Made) (t : CallTask) (moments : Option (List ℕ)) (fresh : Option (List Entry)) (shelf shelf' : List (Option (List Entry))) (asks asks' : Option (List Ask)) (back back' : Option (List Shown)) (faults faults' : ℕ) (old mid new : ByteStream) (status : ℕ) → HasCome m t moments fresh shelf shelf' asks asks' back back' faults faults' old mid → TellsMade m mid new status → status ≡ 6 → EndsInMemory old new
memory made.WriteFault t moments fresh shelf shelf' asks asks' back back' faults faults' old mid new status h tell is = absurd (wrong status 5 6 tell.0 is (λ e. cc))
memory (made.Called called.OutOfMemory) t moments fresh shelf shelf' asks asks' back back' faults faults' old mid new status h tell is = lines_in_memory h.0 old mid new h.2 (tell.memory refl).1
memory (made.Called called.Finished) t moments fresh shelf shelf' asks asks' back back' faults faults' old mid new status h tell is = no_line called.Finished old mid new status (λ e. cc) (λ e. cc) h.0 h.2 tell is
memory (made.Called (called.Refused why)) t moments fresh shelf shelf' asks asks' back back' faults faults' old mid new status h tell is = no_line (called.Refused why) old mid new status (λ e. cc) (λ e. cc) h.0 h.2 tell is
memory (made.Called called.Net) t moments fresh shelf shelf' asks asks' back back' faults faults' old mid new status h tell is = no_line called.Net old mid new status (λ e. cc) (λ e. cc) h.0 h.2 tell is
memory (made.Called (called.Dead last)) t moments fresh shelf shelf' asks asks' back back' faults faults' old mid new status h tell is = no_line (called.Dead last) old mid new status (λ e. cc) (λ e. cc) h.0 h.2 tell is
memory (made.Called (called.Idle n)) t moments fresh shelf shelf' asks asks' back back' faults faults' old mid new status h tell is = no_line (called.Idle n) old mid new status (λ e. cc) (λ e. cc) h.0 h.2 tell is

-- ---- the status, and the failed writes

line_failed : (old mid new : ByteStream) (status : ℕ) → mid.faults ≡ old.faults → status ≡ 6 → WritesLine memory_line mid new → FailedWrites old.faults new.faults status
line_failed old mid new status same is (inl whole) = inl (whole.faults ∙ same, λ five. wrong status 6 5 is five (λ e. cc))
line_failed old mid new status same is (inr part) = inr (part.faults ∙ ap one_more same, inr (inr is))

told_failed : (r : Called) (old mid new : ByteStream) (status : ℕ) → (r ≡ called.OutOfMemory → ⊥) → (status_of r ≡ 5 → ⊥) → mid.faults ≡ old.faults → IsTelling r mid new status → FailedWrites old.faults new.faults status
told_failed r old mid new status some not_five same tell = elim (tell.told some) [
  | inl one ↦ inl (one.1.faults ∙ same, λ five. not_five (sym one.0 ∙ five))
  | inr two ↦ elim two [
    | inl five ↦ inr (five.1.faults ∙ ap one_more same, inr (inl five.0))
    | inr six ↦ line_failed old mid new status same six.0 six.1
  ]
]

told_status : (r : Called) (mid new : ByteStream) (status : ℕ) → (r ≡ called.OutOfMemory → ⊥) → IsTelling r mid new status → (status ≡ status_of r) ⊎ ((status ≡ 5) ⊎ (status ≡ 6))
told_status r mid new status some tell = elim (tell.told some) [
  | inl one ↦ inl one.0
  | inr two ↦ elim two [
    | inl five ↦ inr (inl five.0)
    | inr six ↦ inr (inr six.0)
  ]
]

pub failed_writes : (m : Made) (t : CallTask) (moments : Option (List ℕ)) (fresh : Option (List Entry)) (shelf shelf' : List (Option (List Entry))) (asks asks' : Option (List Ask)) (back back' : Option (List Shown)) (faults faults' : ℕ) (old mid new : ByteStream) (status : ℕ) → HasCome m t moments fresh shelf shelf' asks asks' back back' faults faults' old mid → TellsMade m mid new status → FailedWrites old.faults new.faults status
failed_writes made.WriteFault t moments fresh shelf shelf' asks asks' back back' faults faults' old mid new status h tell = inr (ap (λ (s : ByteStream). s.faults) tell.1 ∙ h.2.faults, inr (inl tell.0))
failed_writes (made.Called called.OutOfMemory) t moments fresh shelf shelf' asks asks' back back' faults faults' old mid new status h tell = line_failed old mid new status h.2.faults (tell.memory refl).0 (tell.memory refl).1
failed_writes (made.Called called.Finished) t moments fresh shelf shelf' asks asks' back back' faults faults' old mid new status h tell = told_failed called.Finished old mid new status (λ e. cc) (λ e. cc) h.2.faults tell
failed_writes (made.Called (called.Refused why)) t moments fresh shelf shelf' asks asks' back back' faults faults' old mid new status h tell = told_failed (called.Refused why) old mid new status (λ e. cc) (λ e. cc) h.2.faults tell
failed_writes (made.Called called.Net) t moments fresh shelf shelf' asks asks' back back' faults faults' old mid new status h tell = told_failed called.Net old mid new status (λ e. cc) (λ e. cc) h.2.faults tell
failed_writes (made.Called (called.Dead last)) t moments fresh shelf shelf' asks asks' back back' faults faults' old mid new status h tell = told_failed (called.Dead last) old mid new status (λ e. cc) (λ e. cc) h.2.faults tell
failed_writes (made.Called (called.Idle n)) t moments fresh shelf shelf' asks asks' back back' faults faults' old mid new status h tell = told_failed (called.Idle n) old mid new status (λ e. cc) (λ e. cc) h.2.faults tell

call_status : (k status : ℕ) → IsCallStatus k → (status ≡ k) ⊎ ((status ≡ 5) ⊎ (status ≡ 6)) → IsCallStatus status
call_status k status right (inl is) = subst IsCallStatus (sym is) right
call_status k status right (inr (inl five)) = inr (inl five)
call_status k status right (inr (inr six)) = inr (inr (inl six))

pub status_is : (m : Made) (mid new : ByteStream) (status : ℕ) → TellsMade m mid new status → IsCallStatus status
status_is made.WriteFault mid new status tell = inr (inl tell.0)
status_is (made.Called called.OutOfMemory) mid new status tell = inr (inr (inl (tell.memory refl).0))
status_is (made.Called called.Finished) mid new status tell = call_status 0 status (inl refl) (told_status called.Finished mid new status (λ e. cc) tell)
status_is (made.Called (called.Refused why)) mid new status tell = call_status 7 status (inr (inr (inr (inl refl)))) (told_status (called.Refused why) mid new status (λ e. cc) tell)
status_is (made.Called called.Net) mid new status tell = call_status 8 status (inr (inr (inr (inr (inl refl))))) (told_status called.Net mid new status (λ e. cc) tell)
status_is (made.Called (called.Dead last)) mid new status tell = call_status 9 status (inr (inr (inr (inr (inr (inl refl)))))) (told_status (called.Dead last) mid new status (λ e. cc) tell)
status_is (made.Called (called.Idle n)) mid new status tell = call_status 10 status (inr (inr (inr (inr (inr (inr refl)))))) (told_status (called.Idle n) mid new status (λ e. cc) tell)
