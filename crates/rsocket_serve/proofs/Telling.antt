-- How the end of a server is told, by its status.
use Rattle.std.proofs.Common.{◌≡◌, ◌∙◌, ℕ, List, Option, Result, Ok, Err, inl, inr, refl, sym}
use Rattle.handlers.specs.Listed.{Listed}
use Rattle.outside.specs.Streams.{ByteStream}
use Rattle.tape.specs.declared.entry.Entry.{Entry}
use Rattle.server.specs.declared.served.Served.{Served}
use Rattle.serve.specs.Links.{NetShown}
use Rattle.serve.specs.declared.plan.ServeFault.{ServeFault}
use Rattle.serve.specs.declared.plan.ServeFault.TheVariants as faults
use Rattle.rsocket_output.specs.Written.{CutOff, CutsOffSome, Writes, WritesSome}
use Rattle.rsocket_serve.specs.Came.{HasCome, IsTold, TellsServed}
use Rattle.rsocket_serve.specs.Served.{AllWereServed, WasEnding, link_line, served_line}
use Rattle.command_line.specs.declared.serve_task.ServeTask.{ServeTask}

wrong : (status a b : ℕ) → status ≡ a → status ≡ b → (a ≡ b → ⊥) → ⊥
wrong status a b is other some = some (sym is ∙ other)

-- ---- a line

line_of : (line : List ℕ) (due : ℕ) (old new : ByteStream) (status : ℕ) → IsTold line due old new status → (status ≡ 5 → ⊥) → (status ≡ 6 → ⊥) → (status ≡ due) × Writes line old new
line_of line due old new status (inl whole) not_five not_six = whole
line_of line due old new status (inr (inl five)) not_five not_six = absurd (not_five five.0)
line_of line due old new status (inr (inr six)) not_five not_six = absurd (not_six six.0)

cut_of : (line : List ℕ) (due : ℕ) (old new : ByteStream) (status : ℕ) → IsTold line due old new status → status ≡ 5 → (due ≡ 5 → ⊥) → CutOff line old new
cut_of line due old new status (inl whole) five other = absurd (other (sym whole.0 ∙ five))
cut_of line due old new status (inr (inl cut)) five other = cut.1
cut_of line due old new status (inr (inr six)) five other = absurd (wrong status 6 5 six.0 five (λ e. cc))

-- ---- the end of a server

module _ (t : ServeTask) (routes : List Listed) (moments : Option (List ℕ)) (shelf shelf' : List (Option (List Entry))) (net net' : NetShown) (old new : ByteStream) (status : ℕ) where
  pub done : (r : Result (List Served) ServeFault) → HasCome t routes moments shelf shelf' net net' r → TellsServed t.connections r old new status → status ≡ 0 → WritesSome (AllWereServed t routes moments shelf shelf' net net') old new
  done (Ok list) come told is =
      (served_line t.connections, record { list = list; serves = come; line = refl }, (line_of (served_line t.connections) 0 old new status told (λ five. wrong status 0 5 is five (λ e. cc)) (λ six. wrong status 0 6 is six (λ e. cc))).1)
  done (Err faults.Net) come told is = absurd (wrong status 8 0 (line_of link_line 8 old new status told (λ five. wrong status 0 5 is five (λ e. cc)) (λ six. wrong status 0 6 is six (λ e. cc))).0 is (λ e. cc))
  done (Err faults.OutOfMemory) come told is = absurd (wrong status 6 0 told.0 is (λ e. cc))

  pub cut_off : (r : Result (List Served) ServeFault) → HasCome t routes moments shelf shelf' net net' r → TellsServed t.connections r old new status → status ≡ 5 → CutsOffSome (WasEnding t routes moments shelf shelf' net net') old new
  cut_off (Ok list) come told is = (served_line t.connections, inl (record { list = list; serves = come; line = refl }), cut_of (served_line t.connections) 0 old new status told is (λ e. cc))
  cut_off (Err faults.Net) come told is = (link_line, inr (record { fails = come.0; rose = come.1; line = refl }), cut_of link_line 8 old new status told is (λ e. cc))
  cut_off (Err faults.OutOfMemory) come told is = absurd (wrong status 6 5 told.0 is (λ e. cc))
