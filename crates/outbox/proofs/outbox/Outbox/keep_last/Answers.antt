use Rattle.std.proofs.Common.{◌≡◌, ◌+◌, ◌-◌, ◌≤◌, ◌++◌, ◌∷◌, [], List, ℕ, length, take, drop, ap, sym, subst, ◌∙◌, arith}
use Rattle.std.proofs.lemmas.List.{drop-drop, length-drop, take_all}
use Rattle.byte_queue.specs.Contents.{Contents}
use Rattle.rs_frame.specs.Framed.{framed}
use Rattle.replay_buffer.specs.Held.{Held, IsHeldOf, end_of, from_least, with_newest}
use Rattle.outbox.specs.Line.{own_in, run}
use Rattle.outbox.specs.Waiting.{Waiting}
use Rattle.outbox.specs.Woven.{IsWoven, waiting_of}
use Rattle.outbox.specs.declared.outbox.Outbox.TheInside.{Inside}
use Rattle.outbox.proofs.Woven.{last_own, lines}
use Rattle.outbox.proofs.outbox.Outbox.keep_last.Goals as goal

rest_is : (own : List ℕ) (start : ℕ) → take (length own - start) (drop start own) ≡ drop start own
rest_is own start = take_all (length own - start) (drop start own) (omega (arith, length-drop start own))

-- the frame that was put in line last
frame_is : (o : Inside) (w : Waiting) (own : List ℕ) (start count : ℕ) → IsWoven o → waiting_of o ≡ w → own ≡ o.own.bytes → count ≤ w.room.loose → start + count ≡ length own
    → take (length own - start) (drop start own) ≡ drop (length w.queue - count) w.queue
frame_is o w own start count i view own_is loose sum =
    let size = ap length own_is in
    let fits : own_in o.spans.bytes + count ≤ length o.own.bytes = omega (arith, i.own, ap (λ (x : Waiting). x.room.loose) view, loose, sum, size) in
    let place : start ≡ length o.own.bytes - count = omega (arith, sum, size) in
    rest_is own start ∙ (λ j. drop (place j) (own_is j)) ∙ sym (last_own o count i fits) ∙ ap (λ (x : Waiting). drop (length x.queue - count) x.queue) view

-- the frame after its length
cut_is : (own bytes : List ℕ) (start : ℕ) → bytes ≡ take (length own - start) (drop start own) → drop 3 bytes ≡ drop (start + 3) own
cut_is own bytes start last = ap (drop 3) (last ∙ rest_is own start) ∙ drop-drop 3 start own

framed_is : (own bytes : List ℕ) (start : ℕ) → bytes ≡ take (length own - start) (drop start own) → drop start own ≡ framed (drop (start + 3) own) → bytes ≡ framed (drop 3 bytes)
framed_is own bytes start last is = last ∙ rest_is own start ∙ is ∙ ap framed (sym (cut_is own bytes start last))

pub keep_last-requires-clause-framed : goal.keep_last-requires-clause-framed
keep_last-requires-clause-framed c = framed_is c.as_slice-own.result.now c.of.result c.in-Some.start c.of.ensures c.in-Some.ensures.framed

pub invariant_of-self : goal.invariant_of-self
invariant_of-self c =
    let o = c.self.inside in
    let slice = c.as_slice-own.result.now in
    let own_is = c.as_slice-own.ensures in
    let start = c.in-Some.start in
    let within : start ≤ length o.own.bytes = omega (arith, c.in-Some.ensures.within, ap length own_is) in
    (lines o c.truncate.new.self c.keep_last.new.self (drop (start + 3) slice) start c.self.invariant within c.in-Some.ensures.after
    (ap (λ (q : Contents). q.bytes) c.truncate.ensures) (ap (drop start) (sym own_is) ∙ c.in-Some.ensures.framed)
    (c.keep_last.ensures.bytes ∙ ap (λ b. o.spans.bytes ++ run (start - own_in o.spans.bytes) b) (c.of.ensures ∙ rest_is slice start ∙ c.in-Some.ensures.framed))).0

pub returns-in-Some-clause-held : goal.returns-in-Some-clause-held
returns-in-Some-clause-held c =
    let slice = c.as_slice-own.result.now in
    let start = c.in-Some.start + 3 in
    let frame = cut_is slice c.of.result c.in-Some.start c.of.ensures ∙ sym (rest_is slice start) ∙ frame_is c.self.inside c.args.self.now slice start c.args.count c.self.invariant c.self.view_is c.as_slice-own.ensures c.requires.loose (omega (arith, c.in-Some.ensures.within)) in
    c.keep_last.ensures.held ∙ (λ j.
    let h = (c.self.view_is j).held in
    let all = with_newest h (frame j) in
    from_least all (end_of all - h.hold)
    )

pub returns-in-Some-clause-of_made : goal.returns-in-Some-clause-of_made
returns-in-Some-clause-of_made c = λ made told newest is up_to spelled.
    let slice = c.as_slice-own.result.now in
    let start = c.in-Some.start + 3 in
    let frame = cut_is slice c.of.result c.in-Some.start c.of.ensures ∙ sym (rest_is slice start) ∙ frame_is c.self.inside c.args.self.now slice start c.args.count c.self.invariant c.self.view_is c.as_slice-own.ensures c.requires.loose (omega (arith, c.in-Some.ensures.within)) in
    c.keep_last.ensures.of_made made told newest (subst (λ (w : Waiting). IsHeldOf made told w.held) (sym c.self.view_is) is) up_to (frame ∙ spelled)

pub returns-in-Some-clause-queue : goal.returns-in-Some-clause-queue
returns-in-Some-clause-queue c =
    let o = c.self.inside in
    let slice = c.as_slice-own.result.now in
    let own_is = c.as_slice-own.ensures in
    let start = c.in-Some.start in
    let within : start ≤ length o.own.bytes = omega (arith, c.in-Some.ensures.within, ap length own_is) in
    (lines o c.truncate.new.self c.keep_last.new.self (drop (start + 3) slice) start c.self.invariant within c.in-Some.ensures.after
    (ap (λ (q : Contents). q.bytes) c.truncate.ensures) (ap (drop start) (sym own_is) ∙ c.in-Some.ensures.framed)
    (c.keep_last.ensures.bytes ∙ ap (λ b. o.spans.bytes ++ run (start - own_in o.spans.bytes) b) (c.of.ensures ∙ rest_is slice start ∙ c.in-Some.ensures.framed))).1
    ∙ ap (λ (w : Waiting). w.queue) c.self.view_is

pub returns-in-None-clause-held : goal.returns-in-None-clause-held
returns-in-None-clause-held c =
    let slice = c.as_slice-own.result.now in
    let sum : (length slice - c.args.count) + c.args.count ≡ length slice = omega (arith, c.requires.loose, ap (λ (w : Waiting). w.room.loose) c.self.view_is, ap length c.as_slice-own.ensures) in
    let frame = frame_is c.self.inside c.args.self.now slice (length slice - c.args.count) c.args.count c.self.invariant c.self.view_is c.as_slice-own.ensures c.requires.loose sum in
    c.keep.ensures.held ∙ (λ j.
    let h = (c.self.view_is j).held in
    let all = with_newest h (frame j) in
    from_least all (end_of all - h.hold)
    )

pub returns-in-None-clause-of_made : goal.returns-in-None-clause-of_made
returns-in-None-clause-of_made c = λ made told newest is up_to spelled.
    let slice = c.as_slice-own.result.now in
    let sum : (length slice - c.args.count) + c.args.count ≡ length slice = omega (arith, c.requires.loose, ap (λ (w : Waiting). w.room.loose) c.self.view_is, ap length c.as_slice-own.ensures) in
    let frame = frame_is c.self.inside c.args.self.now slice (length slice - c.args.count) c.args.count c.self.invariant c.self.view_is c.as_slice-own.ensures c.requires.loose sum in
    c.keep.ensures.of_made made told newest (subst (λ (w : Waiting). IsHeldOf made told w.held) (sym c.self.view_is) is) up_to (frame ∙ spelled)
