-- What each call of the outbox makes of what waits.
use Rattle.std.proofs.Common.{◌≡◌, ℕ, zero, suc, ◌+◌, ◌-◌, ◌<◌, ◌≤◌, ◌^◌, List, [], ◌∷◌, ◌++◌, length, take, drop, Option, refl, sym, ap, ◌∙◌, arith}
use Rattle.std.proofs.lemmas.List.{drop_at, length-append, length-drop, length-take-le, take-append-drop}
use Rattle.byte_queue.specs.Contents.{Contents}
use Rattle.rs_frame.specs.Framed.{framed}
use Rattle.outbox.specs.declared.outbox.Outbox.TheInside.{Inside}
use Rattle.outbox.specs.Line.{Line, own_in, run, weave}
use Rattle.outbox.specs.Woven.{IsWoven, waiting_of}
use Rattle.outbox.specs.Waiting.{Waiting, with_last, with_queue}
use Rattle.outbox.proofs.Runs.{length-run}
use Rattle.outbox.proofs.Weaving.{length-weave, own_in-append, own_in-le, own_in-nil, own_in-parts, own_in-run, weave-drop, weave-last, weave-more, weave-nil, weave-take, without_last}

-- so many bytes wait
pub in_all : (o : Inside) → IsWoven o → length (waiting_of o).queue + own_in o.spans.bytes ≡ length o.spans.bytes + length o.own.bytes
in_all o i = length-weave o.spans.bytes o.own.bytes i.own

-- the fields stand, and show this
pub record Shows (o : Inside) (w : Waiting) : Type 0 where
  pub woven : IsWoven o
  pub shown : waiting_of o ≡ w

pub appends : (o : Inside) (own : Contents) (more : List ℕ) → IsWoven o → own.bytes ≡ o.own.bytes ++ more → length own.bytes + length o.spans.bytes < 2 ^ 63 + own_in o.spans.bytes
    → Shows (record o { own = own }) (with_last (waiting_of o) more)
appends o own more i is few =
    let size = ap length is ∙ length-append o.own.bytes more in
    let loose : length own.bytes - own_in o.spans.bytes ≡ (length o.own.bytes - own_in o.spans.bytes) + length more = omega (arith, size, i.own) in
    record {
      woven = record { own = omega (arith, size, i.own); few = few };
      shown = λ j. record {
        queue = (ap (weave o.spans.bytes) is ∙ weave-more o.spans.bytes o.own.bytes more i.own) j;
        held = o.spans.held;
        room = record { spare = o.spans.spare; loose = loose j };
      };
    }

-- the frames of the line grow, and nothing else changes but what was reserved
pub same_line : (o : Inside) (spans : Line) → IsWoven o → spans.bytes ≡ o.spans.bytes
    → Shows (record o { spans = spans }) (record { queue = (waiting_of o).queue; held = spans.held; room = record { spare = spans.spare; loose = (waiting_of o).room.loose } })
same_line o spans i is =
    let count = ap own_in is in
    let size = ap length is in
    record {
      woven = record { own = omega (arith, count, i.own); few = omega (arith, count, size, i.few) };
      shown = λ j. record {
        queue = weave (is j) o.own.bytes;
        held = spans.held;
        room = record { spare = spans.spare; loose = length o.own.bytes - own_in (is j) };
      };
    }

pub sends : (o : Inside) (spans : Line) (more : List ℕ) → IsWoven o → spans.bytes ≡ o.spans.bytes ++ run (length o.own.bytes - own_in o.spans.bytes) more
    → length o.own.bytes + length spans.bytes < 2 ^ 63 + own_in spans.bytes → spans.held ≡ o.spans.held → spans.spare ≡ o.spans.spare
    → Shows (record o { spans = spans }) (with_queue (waiting_of o) ((waiting_of o).queue ++ more) (length o.own.bytes - own_in spans.bytes))
sends o spans more i is few held spare =
    let tail = length o.own.bytes - own_in o.spans.bytes in
    let count = ap own_in is ∙ own_in-append o.spans.bytes (run tail more) in
    record {
      woven = record { own = omega (arith, count, own_in-run tail more, i.own); few = few };
      shown = λ j. record {
        queue = (ap (λ bs. weave bs o.own.bytes) is ∙ weave-last o.spans.bytes tail o.own.bytes more (omega (arith, i.own))) j;
        held = held j;
        room = record { spare = spare j; loose = length o.own.bytes - own_in spans.bytes };
      };
    }

-- a frame is put into the line after all own bytes
pub joins : (o : Inside) (spans : Line) (more : List ℕ) → IsWoven o → spans.bytes ≡ o.spans.bytes ++ run (length o.own.bytes - own_in o.spans.bytes) more
    → length (waiting_of o).queue + length more < 2 ^ 63 → IsWoven (record o { spans = spans }) × (weave spans.bytes o.own.bytes ≡ (waiting_of o).queue ++ more)
joins o spans more i is few =
    let tail = length o.own.bytes - own_in o.spans.bytes in
    let count = ap own_in is ∙ own_in-append o.spans.bytes (run tail more) in
    let long = ap length is ∙ length-append o.spans.bytes (run tail more) in (
      record {
        own = omega (arith, count, own_in-run tail more, i.own);
        few = omega (arith, count, own_in-run tail more, long, length-run tail more, in_all o i, i.own, few);
      },
      ap (λ bs. weave bs o.own.bytes) is ∙ weave-last o.spans.bytes tail o.own.bytes more (omega (arith, i.own)),
    )

-- the last frame goes from the own bytes into the line
pub lines : (o : Inside) (own : Contents) (spans : Line) (frame : List ℕ) (start : ℕ) → IsWoven o → start ≤ length o.own.bytes → own_in o.spans.bytes ≤ start
    → own.bytes ≡ take start o.own.bytes → drop start o.own.bytes ≡ framed frame → spans.bytes ≡ o.spans.bytes ++ run (start - own_in o.spans.bytes) (framed frame)
    → IsWoven (record { own = own; spans = spans }) × (weave spans.bytes own.bytes ≡ (waiting_of o).queue)
lines o own spans frame start i within low left last is =
    let tail = start - own_in o.spans.bytes in
    let front = take start o.own.bytes in
    let size = length-take-le start o.own.bytes within in
    let all : front ++ framed frame ≡ o.own.bytes = ap (λ l. front ++ l) (sym last) ∙ take-append-drop start o.own.bytes in
    let count = ap own_in is ∙ own_in-append o.spans.bytes (run tail (framed frame)) in
    let long = ap length is ∙ length-append o.spans.bytes (run tail (framed frame)) in
    let sum = ap length all in (
      record {
        own = omega (arith, ap length left, size, count, own_in-run tail (framed frame), low);
        few = omega (arith, ap length left, size, count, own_in-run tail (framed frame), low, long, length-run tail (framed frame), sum, length-append front (framed frame), i.few);
      },
      (λ j. weave (is j) (left j)) ∙ weave-last o.spans.bytes tail front (framed frame) (omega (arith, size, low))
          ∙ sym (weave-more o.spans.bytes front (framed frame) (omega (arith, size, low))) ∙ ap (weave o.spans.bytes) all,
    )

-- the last bytes that wait are the last own ones
pub last_own : (o : Inside) (n : ℕ) → IsWoven o → own_in o.spans.bytes + n ≤ length o.own.bytes → drop (length (waiting_of o).queue - n) (waiting_of o).queue ≡ drop (length o.own.bytes - n) o.own.bytes
last_own o n i fits =
    let m = length o.own.bytes - n in
    let front = take m o.own.bytes in
    let back = drop m o.own.bytes in
    let size = length-take-le m o.own.bytes (omega arith) in
    let cut : (waiting_of o).queue ≡ weave o.spans.bytes front ++ back =
    ap (weave o.spans.bytes) (sym (take-append-drop m o.own.bytes)) ∙ weave-more o.spans.bytes front back (omega (arith, size, fits)) in
    let total : length (weave o.spans.bytes front) ≡ length (waiting_of o).queue - n =
    omega (arith, ap length cut, length-append (weave o.spans.bytes front) back, length-drop m o.own.bytes, fits) in
    ap (drop (length (waiting_of o).queue - n)) cut ∙ drop_at (weave o.spans.bytes front) back (length (waiting_of o).queue - n) total

-- ---- bytes leave

none_left : (bytes : List (Option ℕ)) → length bytes ≡ 0 → bytes ≡ []
none_left [] none = refl
none_left (b ∷ bytes) none = absurd (omega (arith, none))

-- the line is empty, and own bytes leave at the front
pub own_leave : (o : Inside) (own : Contents) (spans : Line) (n : ℕ) → IsWoven o → length o.spans.bytes ≡ 0 → n ≤ length (waiting_of o).queue → own.bytes ≡ drop n o.own.bytes
    → spans.bytes ≡ drop 0 o.spans.bytes → spans.held ≡ o.spans.held → spans.spare ≡ o.spans.spare
    → Shows (record { own = own; spans = spans }) (with_queue (waiting_of o) (drop n (waiting_of o).queue) (length own.bytes - own_in spans.bytes))
own_leave o own spans n i none within is same held spare =
    let empty = none_left o.spans.bytes none in
    let now : spans.bytes ≡ [] = same ∙ empty in
    let count = ap own_in now ∙ own_in-nil in
    let before = ap own_in empty ∙ own_in-nil in
    let size = ap length is ∙ length-drop n o.own.bytes in
    record {
      woven = record { own = omega (arith, count); few = omega (arith, count, ap length now, size, i.few, before, none) };
      shown = λ j. record {
        queue = ((λ k. weave (now k) (is k)) ∙ weave-nil (drop n o.own.bytes) ∙ ap (drop n) (sym (weave-nil o.own.bytes) ∙ ap (λ bs. weave bs o.own.bytes) (sym empty))) j;
        held = held j;
        room = record { spare = spare j; loose = length own.bytes - own_in spans.bytes };
      };
    }

-- bytes of the line leave at the front
pub first_leave : (o : Inside) (own : Contents) (spans : Line) (n : ℕ) → IsWoven o → n ≤ length o.spans.bytes → own.bytes ≡ drop (own_in (take n o.spans.bytes)) o.own.bytes
    → spans.bytes ≡ drop n o.spans.bytes → spans.held ≡ o.spans.held → spans.spare ≡ o.spans.spare
    → Shows (record { own = own; spans = spans }) (with_queue (waiting_of o) (drop n (waiting_of o).queue) (length own.bytes - own_in spans.bytes))
first_leave o own spans n i within is now held spare =
    let k = own_in (take n o.spans.bytes) in
    let parts = own_in-parts o.spans.bytes n in
    let count = ap own_in now in
    let size = ap length is ∙ length-drop k o.own.bytes in
    let long = ap length now ∙ length-drop n o.spans.bytes in
    let few = own_in-le (take n o.spans.bytes) in
    record {
      woven = record {
        own = omega (arith, count, size, parts, i.own);
        few = omega (arith, count, size, long, parts, i.own, i.few, within, few, length-take-le n o.spans.bytes within);
      };
      shown = λ j. record {
        queue = ((λ m. weave (now m) (is m)) ∙ sym (weave-drop o.spans.bytes n o.own.bytes within i.own)) j;
        held = held j;
        room = record { spare = spare j; loose = length own.bytes - own_in spans.bytes };
      };
    }

-- own bytes leave at the end
pub last_leave : (o : Inside) (own : Contents) (n : ℕ) → IsWoven o → own_in o.spans.bytes + n ≤ length o.own.bytes → own.bytes ≡ take (length o.own.bytes - n) o.own.bytes
    → Shows (record o { own = own }) (with_queue (waiting_of o) (take (length (waiting_of o).queue - n) (waiting_of o).queue) (length own.bytes - own_in o.spans.bytes))
last_leave o own n i fits is =
    let m = length o.own.bytes - n in
    let size = ap length is ∙ length-take-le m o.own.bytes (omega arith) in
    let same : length o.own.bytes - m ≡ n = omega (arith, fits) in
    record {
      woven = record { own = omega (arith, size, fits); few = omega (arith, size, i.few) };
      shown = λ j. record {
        queue = (ap (weave o.spans.bytes) is ∙ without_last o.spans.bytes m o.own.bytes (omega (arith, fits)) (omega arith) ∙ ap (λ k. take (length (waiting_of o).queue - k) (waiting_of o).queue) same) j;
        held = o.spans.held;
        room = record { spare = o.spans.spare; loose = length own.bytes - own_in o.spans.bytes };
      };
    }

-- bytes of the line leave at the end, after which no own ones come
pub line_leaves : (o : Inside) (own : Contents) (spans : Line) (n k : ℕ) → IsWoven o → own_in o.spans.bytes ≡ length o.own.bytes → n ≤ length o.spans.bytes
    → k ≡ own_in (drop (length o.spans.bytes - n) o.spans.bytes) → own.bytes ≡ take (length o.own.bytes - k) o.own.bytes
    → spans.bytes ≡ take (length o.spans.bytes - n) o.spans.bytes → spans.held ≡ o.spans.held → spans.spare ≡ o.spans.spare
    → Shows (record { own = own; spans = spans }) (with_queue (waiting_of o) (take (length (waiting_of o).queue - n) (waiting_of o).queue) (length own.bytes - own_in spans.bytes))
line_leaves o own spans n k i all within gone is now held spare =
    let m = length o.spans.bytes - n in
    let parts = own_in-parts o.spans.bytes m in
    let left : own_in (take m o.spans.bytes) ≡ length o.own.bytes - k = omega (arith, parts, gone, all) in
    let count = ap own_in now in
    let size = ap length is ∙ length-take-le (length o.own.bytes - k) o.own.bytes (omega arith) in
    let long = ap length now ∙ length-take-le m o.spans.bytes (omega arith) in
    let total : length (waiting_of o).queue - n ≡ m = omega (arith, in_all o i, all) in
    record {
      woven = record {
        own = omega (arith, count, size, left);
        few = omega (arith, count, size, long, left, all, i.few);
      };
      shown = λ j. record {
        queue = ((λ x. weave (now x) (is x)) ∙ ap (λ x. weave (take m o.spans.bytes) (take x o.own.bytes)) (sym left) ∙ sym (weave-take o.spans.bytes m o.own.bytes (omega arith) i.own)
            ∙ ap (λ x. take x (waiting_of o).queue) (sym total)) j;
        held = held j;
        room = record { spare = spare j; loose = length own.bytes - own_in spans.bytes };
      };
    }
