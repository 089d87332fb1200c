-- What is kept of a stream, against the sums over the frames that its end made and handled.
use Rattle.std.proofs.Common.{◌≡◌, ◌≤◌, ◌<◌, ◌+◌, ◌&&◌, ◌||◌, ℕ, Bool, true, false, not, cond, None, refl, sym, ◌∙◌, arith}
use Rattle.rs_wire.specs.declared.words.Kind.{Kind}
use Rattle.rs_wire.specs.declared.words.Role.{Role}
use Rattle.rs_wire.specs.declared.words.Role.TheVariants.{Requester, Responder}
use Rattle.rs_wire.specs.declared.words.Side.{Side}
use Rattle.rs_wire.specs.declared.words.Way.{Way}
use Rattle.rs_wire.specs.declared.words.Way.TheVariants as way
use Rattle.rs_wire.specs.declared.message.Message.{Message}
use Rattle.rs_wire.specs.declared.delivery.Delivery.{Delivery}
use Rattle.stream_model.specs.declared.stream.Stream.{Stream}
use Rattle.stream_model.specs.Marks.{Step, Payload, RequestN, Cancel, Fail}
use Rattle.stream_model.specs.Turns.{Word, Said, Taken, ends, grants, inbound, is_of_requester, is_role, may_grant, needs_credit, other}
use Rattle.stream_model.specs.Streams.{one_if}
use Rattle.stream_model.specs.Kept.{after, items_in}
use Rattle.stream_model.specs.Known.{credit_at, is_own_parity, over_at}
use Rattle.stream_model.specs.Refused.{inbound_over, on_way, outbound_over}
use Rattle.honest_laws.proofs.Counts.{Counts, none, plus}
use Rattle.honest_laws.proofs.Roles.{late, own_ends, own_grants, own_items, own_late, own_no_grant, own_no_item, own_parts, peers_late, same_late}

-- ---- the sums

-- the stream s of an end on that side, of which this is kept; parts says whether its request came or went in fragments, made and handled are the sums
pub record Tally (side : Side) (s : ℕ) (made handled : Counts) (f : Stream) (parts : Bool) : Type 0 where
  pub part : is_role f.role Requester ≡ is_own_parity side s
  pub own_whole : f.role ≡ Requester → f.whole ≡ true
  pub granted_in : needs_credit f.kind ≡ true → made.given ≤ (credit_at f (inbound f.role)).granted
  pub granted_out : needs_credit f.kind ≡ true → (credit_at f (inbound (other f.role))).granted ≤ handled.given
  pub used_in : needs_credit f.kind ≡ true → (credit_at f (inbound f.role)).used + late f.role parts f.whole ≤ handled.ended
  pub used_out : needs_credit f.kind ≡ true → over_at f (inbound (other f.role)) ≡ false
      → made.ended ≤ (credit_at f (inbound (other f.role))).used + own_parts f.role made.parts
  pub parts_in : f.role ≡ Responder → handled.parts ≤ one_if parts
  pub without_own : f.role ≡ Requester → made.without ≤ one_if (not (needs_credit f.kind))
  pub without_peer : f.role ≡ Responder → one_if (not (needs_credit f.kind)) ≤ handled.without

-- an id without a stream, above the highest of its parity or not
pub record Bare (s : ℕ) (made handled : Counts) (high : ℕ) : Type 0 where
  pub given : made.given ≡ 0
  pub ended : made.ended ≡ 0
  pub without : made.without ≡ 0
  pub fresh : high < s → handled.parts ≡ 0

-- ---- a word more

granted_after : (f : Stream) (x : Word) (w : Way) → needs_credit f.kind ≡ true → (credit_at (after f x) w).granted ≡ (credit_at f w).granted + grants f.kind w x
granted_after f x way.Request needs = rw needs refl
granted_after f x way.Reply needs = rw needs refl

used_after : (f : Stream) (x : Word) (w : Way) → (credit_at (after f x) w).used ≡ (credit_at f w).used + items_in (over_at f w) f.kind f.whole w x
used_after f x way.Request = refl
used_after f x way.Reply = refl

over_after : (f : Stream) (x : Word) (w : Way) → over_at (after f x) w ≡ (over_at f w || ends f.kind w x)
over_after f x way.Request = refl
over_after f x way.Reply = refl

neither_over : (a b : Bool) → (a || b) ≡ false → (a ≡ false) × (b ≡ false)
neither_over false b is = (refl, is)
neither_over true b is = absurd (cc)

-- the request's own message is whole after a word
abbrev whole_after : Stream → Word → Bool
whole_after f x = f.whole || (is_of_requester x && not f.request_over)

-- what a word adds to what is kept, against what is added to the sums
pub record Adds (f : Stream) (x : Word) (parts : Bool) (made handled : Counts) : Type 0 where
  pub given_in : made.given ≤ grants f.kind (inbound f.role) x
  pub given_out : grants f.kind (inbound (other f.role)) x ≤ handled.given
  pub used_in : needs_credit f.kind ≡ true
      → items_in (over_at f (inbound f.role)) f.kind f.whole (inbound f.role) x + late f.role parts (whole_after f x) ≤ late f.role parts f.whole + handled.ended
  pub used_out : needs_credit f.kind ≡ true → over_at f (inbound (other f.role)) ≡ false → ends f.kind (inbound (other f.role)) x ≡ false
      → made.ended ≤ items_in (over_at f (inbound (other f.role))) f.kind f.whole (inbound (other f.role)) x
  pub made_parts : made.parts ≡ 0
  pub handled_parts : handled.parts ≡ 0
  pub made_without : made.without ≡ 0

own_more : (role : Role) (n m : ℕ) → m ≡ 0 → own_parts role n ≡ own_parts role (n + m)
own_more Requester n m none = omega arith
own_more Responder n m none = refl

pub tally_more : (side : Side) (s : ℕ) (M H m h : Counts) (f : Stream) (x : Word) (parts : Bool) → Tally side s M H f parts → Adds f x parts m h → Tally side s (plus M m) (plus H h) (after f x) parts
tally_more side s M H m h f x parts t a =
    let i = inbound f.role in
    let o = inbound (other f.role) in
    record {
      part = t.part;
      own_whole = λ mine. rw (t.own_whole mine) refl;
      granted_in = λ needs. let before = t.granted_in needs in let more = a.given_in in let g = granted_after f x i needs in omega (arith, before, more, g);
      granted_out = λ needs. let before = t.granted_out needs in let more = a.given_out in let g = granted_after f x o needs in omega (arith, before, more, g);
      used_in = λ needs. let before = t.used_in needs in let more = a.used_in needs in let u = used_after f x i in omega (arith, before, more, u);
      used_out = λ needs still.
          let both = neither_over (over_at f o) (ends f.kind o x) (sym (over_after f x o) ∙ still) in
          let before = t.used_out needs both.0 in
          let more = a.used_out needs both.0 both.1 in
          let u = used_after f x o in
          let p = own_more f.role M.parts m.parts a.made_parts in
          omega (arith, before, more, u, p);
      parts_in = λ theirs. let before = t.parts_in theirs in let zero = a.handled_parts in omega (arith, before, zero);
      without_own = λ mine. let before = t.without_own mine in let zero = a.made_without in omega (arith, before, zero);
      without_peer = λ theirs. let before = t.without_peer theirs in omega (arith, before);
    }

-- more was handled, which asks for nothing in parts
pub tally_idle : (side : Side) (s : ℕ) (M H h : Counts) (f : Stream) (parts : Bool) → h.parts ≡ 0 → Tally side s M H f parts → Tally side s M (plus H h) f parts
tally_idle side s M H h f parts zero t = record {
  part = t.part;
  own_whole = t.own_whole;
  granted_in = t.granted_in;
  granted_out = λ needs. let before = t.granted_out needs in omega (arith, before);
  used_in = λ needs. let before = t.used_in needs in omega (arith, before);
  used_out = t.used_out;
  parts_in = λ theirs. let before = t.parts_in theirs in omega (arith, before, zero);
  without_own = t.without_own;
  without_peer = λ theirs. let before = t.without_peer theirs in omega (arith, before);
}

-- ---- each word

-- a step that is no payload
abbrev pub is_payload : Step → Bool
is_payload (Payload message complete next) = true
is_payload step = false

no_items : (over : Bool) (kind : Kind) (whole : Bool) (w : Way) (by : Role) (step : Step) → is_payload step ≡ false → items_in over kind whole w (Said by step) ≡ 0
no_items over kind whole w by (Payload m c n) other = absurd (cc)
no_items over kind whole w by (RequestN n) other = refl
no_items over kind whole w by Cancel other = refl
no_items over kind whole w by (Fail code content) other = refl

not_of : (by : Role) (step : Step) → is_payload step ≡ false → is_of_requester (Said by step) ≡ false
not_of by (Payload m c n) other = absurd (cc)
not_of Requester (RequestN n) other = refl
not_of Responder (RequestN n) other = refl
not_of Requester Cancel other = refl
not_of Responder Cancel other = refl
not_of Requester (Fail code content) other = refl
not_of Responder (Fail code content) other = refl

other_used : (f : Stream) (by : Role) (step : Step) (parts : Bool) (n : ℕ) → is_payload step ≡ false
    → items_in (over_at f (inbound f.role)) f.kind f.whole (inbound f.role) (Said by step) + late f.role parts (whole_after f (Said by step)) ≤ late f.role parts f.whole + n
other_used f by step parts n other =
    rw (no_items (over_at f (inbound f.role)) f.kind f.whole (inbound f.role) by step other, not_of by step other)
    (let same = same_late f.role parts f.whole in omega (arith, same))

pub own_item : (f : Stream) (m : Message) (c parts : Bool) → on_way (outbound_over f.role f.kind f) ≡ None → (f.role ≡ Requester → f.whole ≡ true) → Adds f (Said f.role (Payload m c true)) parts (record none { ended = 1 }) none
own_item f m c parts sends mine = record {
  given_in = omega arith;
  given_out = omega arith;
  used_in = λ needs.
      let none_in = own_no_item f.kind f.whole f.role in
      let same = own_late f.role parts f.whole f.request_over m c true in
      rw (needs, none_in) (elim (over_at f (inbound f.role)) as (λ v. cond v 0 (one_if false) + late f.role parts (whole_after f (Said f.role (Payload m c true))) ≤ late f.role parts f.whole + 0) [ true ↦ omega (arith, same) | false ↦ omega (arith, same) ]);
  used_out = λ needs still last. rw (still, needs, own_items f.kind f.role f f.whole sends needs mine) (omega arith);
  made_parts = refl;
  handled_parts = refl;
  made_without = refl;
}

pub own_end : (f : Stream) (m : Message) (parts : Bool) → on_way (outbound_over f.role f.kind f) ≡ None → Adds f (Said f.role (Payload m true false)) parts (record none { ended = 1 }) none
own_end f m parts sends = record {
  given_in = omega arith;
  given_out = omega arith;
  used_in = λ needs.
      let same = own_late f.role parts f.whole f.request_over m true false in
      rw needs (elim (over_at f (inbound f.role)) as (λ v. cond v 0 (one_if false) + late f.role parts (whole_after f (Said f.role (Payload m true false))) ≤ late f.role parts f.whole + 0) [ true ↦ omega (arith, same) | false ↦ omega (arith, same) ]);
  used_out = λ needs still last. let ended = own_ends f.kind f.role f sends needs in absurd (cc (ended, last));
  made_parts = refl;
  handled_parts = refl;
  made_without = refl;
}

pub own_grant : (f : Stream) (n : ℕ) (parts : Bool) → on_way (inbound_over f.role f.kind f) ≡ None → Adds f (Said f.role (RequestN n)) parts (record none { given = n }) none
own_grant f n parts grants = record {
  given_in = rw (own_grants f.kind f.role f grants) (omega arith);
  given_out = rw (own_no_grant f.kind f.role) (omega arith);
  used_in = λ needs. other_used f f.role (RequestN n) parts 0 refl;
  used_out = λ needs still last. omega arith;
  made_parts = refl;
  handled_parts = refl;
  made_without = refl;
}

-- a CANCEL or an ERROR, of either end
abbrev pub ends_stream : Step → Bool
ends_stream Cancel = true
ends_stream (Fail code content) = true
ends_stream step = false

end_no_payload : (step : Step) → ends_stream step ≡ true → is_payload step ≡ false
end_no_payload (Payload m c n) is = absurd (cc)
end_no_payload (RequestN n) is = absurd (cc)
end_no_payload Cancel is = refl
end_no_payload (Fail code content) is = refl

end_no_grant : (kind : Kind) (w : Way) (by : Role) (step : Step) → ends_stream step ≡ true → grants kind w (Said by step) ≡ 0
end_no_grant kind w by (Payload m c n) is = absurd (cc)
end_no_grant kind w by (RequestN n) is = absurd (cc)
end_no_grant kind w by Cancel is = refl
end_no_grant kind w by (Fail code content) is = refl

pub any_end : (f : Stream) (by : Role) (step : Step) (parts : Bool) → ends_stream step ≡ true → Adds f (Said by step) parts none none
any_end f by step parts is = record {
  given_in = omega arith;
  given_out = rw (end_no_grant f.kind (inbound (other f.role)) by step is) (omega arith);
  used_in = λ needs. other_used f by step parts 0 (end_no_payload step is);
  used_out = λ needs still last. omega arith;
  made_parts = refl;
  handled_parts = refl;
  made_without = refl;
}

pub peers_payload : (f : Stream) (m : Message) (c n parts : Bool) → Adds f (Said (other f.role) (Payload m c n)) parts none (record none { ended = 1 })
peers_payload f m c n parts = record {
  given_in = omega arith;
  given_out = omega arith;
  used_in = λ needs. peers_late f.kind f.role parts f.whole (over_at f (inbound f.role)) f.request_over m c n;
  used_out = λ needs still last. omega arith;
  made_parts = refl;
  handled_parts = refl;
  made_without = refl;
}

some_most : (b : Bool) (n : ℕ) → cond b n 0 ≤ n
some_most true n = omega arith
some_most false n = omega arith

pub peers_grant : (f : Stream) (n : ℕ) (parts : Bool) → Adds f (Said (other f.role) (RequestN n)) parts none (record none { given = n })
peers_grant f n parts = record {
  given_in = omega arith;
  given_out = some_most (may_grant f.kind (inbound (other f.role)) (other f.role)) n;
  used_in = λ needs. other_used f (other f.role) (RequestN n) parts 0 refl;
  used_out = λ needs still last. omega arith;
  made_parts = refl;
  handled_parts = refl;
  made_without = refl;
}

pub nothing_said : (f : Stream) (d : Delivery) (parts : Bool) → Adds f (Taken d) parts none none
nothing_said f d parts = record {
  given_in = omega arith;
  given_out = omega arith;
  used_in = λ needs. let same = same_late f.role parts f.whole in omega (arith, same);
  used_out = λ needs still last. omega arith;
  made_parts = refl;
  handled_parts = refl;
  made_without = refl;
}
