-- What holds of a link goes on where an entry moves no bytes of its connection.
use Rattle.std.proofs.Common.{◌≡◌, ◌≤◌, inl, inr, ◌∙◌, ℕ, zero, suc, true, false, true≢false, List, [], ◌∷◌, ◌++◌, length, take, Option, refl, sym, ap, subst, append_assoc}
use Rattle.rs_wire.specs.declared.settings.Settings.{Settings}
use Rattle.rs_frame.specs.declared.frame.Frame.{Frame}
use Rattle.rs_frame.specs.Framed.{framed_all}
use Rattle.outside.specs.Links.{Shown}
use Rattle.tape.specs.declared.entry.Entry.{Entry}
use Rattle.tape.specs.declared.event.Event.{Event}
use Rattle.tape.specs.declared.event.Event.TheVariants as event
use Rattle.session_model.specs.Lists.{IsPrefix}
use Rattle.session_model.specs.Frames.{came, drawn, due, first_bad, given as bytes_drawn, owes, was_opened}
use Rattle.link_model.specs.Reading.{HasRead, IsAfter, AreSpelled}
use Rattle.link_model.specs.Carrying.{Carried, is_of}
use Rattle.link_model.specs.Leaving.{ComesInTime, Heard, IsReadOut, is_came_of}
use Rattle.link_model.proofs.Bytes.{if_some}
use Rattle.link_model.proofs.Same.{bad_other, before_other, came_other, drawn_same, due_more}

prefix_take : (n : ℕ) (xs ys : List ℕ) → IsPrefix (take n xs) (take n (xs ++ ys))
prefix_take zero xs ys = ([], refl)
prefix_take (suc n) [] ys = (take (suc n) ys, refl)
prefix_take (suc n) (x ∷ xs) ys = let h = prefix_take n xs ys in (h.0, ap (λ (l : List ℕ). x ∷ l) h.1)

prefix_both : (xs ys zs : List ℕ) → IsPrefix xs ys → IsPrefix ys zs → IsPrefix xs zs
prefix_both xs ys zs a b = (a.0 ++ b.0, sym (append_assoc xs a.0 b.0) ∙ (ap (λ (l : List ℕ). l ++ b.0) a.1 ∙ b.1))

-- more may be due, and no less is drawn
drawn_more : (g : Settings) (past : List Entry) (x : Entry) (c : ℕ) → is_of c x.event ≡ false → IsPrefix (bytes_drawn g past c) (bytes_drawn g (x ∷ past) c)
drawn_more g past x c apart =
    let D = framed_all (due g past c) in
    let more = framed_all (owes g past c x.answer x.event) in
    let n : drawn (x ∷ past) c ≡ drawn past c = drawn_same past x c apart in
    subst (λ k. IsPrefix (take (drawn past c) D) (take k (framed_all (due g (x ∷ past) c)))) (sym n)
    (subst (λ F. IsPrefix (take (drawn past c) D) (take (drawn past c) F)) (sym (due_more g past x c)) (prefix_take (drawn past c) D more))

pub carried_on : (g : Settings) (past : List Entry) (x : Entry) (link : Shown) (c : ℕ) → is_of c x.event ≡ false → was_opened past c ≡ true → Carried g past link c → Carried g (x ∷ past) link c
carried_on g past x link c apart opened h = record {
  given = if_some link.given (λ bytes k. (prefix_both bytes (bytes_drawn g past c) (bytes_drawn g (x ∷ past) c) k.0 (drawn_more g past x c apart), subst (λ n. n ≤ length bytes) (sym (before_other past x c apart)) k.1)) h.given;
  taken = if_some link.taken (λ bytes k. (k.0, subst (λ (fs : List Frame). HasRead fs (first_bad (x ∷ past) c) g.max_in k.0 bytes) (sym (came_other past x c opened apart)) (subst (λ (o : Option ℕ). HasRead (came past c) o g.max_in k.0 bytes) (sym (bad_other past x c apart)) k.1))) h.taken;
}

came_none : (c : ℕ) (e : Event) → is_of c e ≡ false → is_came_of c e ≡ false
came_none c (event.Came conn f) is = is
came_none c _ is = refl

read_out_on : (g : Settings) (past : List Entry) (x : Entry) (c : ℕ) (bytes : List ℕ) → is_of c x.event ≡ false → was_opened past c ≡ true → IsReadOut g past c bytes → IsReadOut g (x ∷ past) c bytes
read_out_on g past x c bytes apart opened (inl part) = inl part
read_out_on g past x c bytes apart opened (inr (inl bad)) = inr (inl (λ none. bad (sym (bad_other past x c apart) ∙ none)))
read_out_on g past x c bytes apart opened (inr (inr held)) = inr (inr (record {
  event = held.event;
  before = held.before;
  later = x ∷ held.later;
  queued = held.queued;
  since = ap (λ (l : List Entry). x ∷ l) held.since;
  all = held.all ∙ sym (came_other past x c opened apart);
  front = held.front;
  busy = held.busy;
}))

pub heard_on : (g : Settings) (past : List Entry) (x : Entry) (link : Shown) (c : ℕ) → is_of c x.event ≡ false → was_opened past c ≡ true → Heard g past link c → Heard g (x ∷ past) link c
unfolding ComesInTime
heard_on g past x link c apart opened h = record {
  in_time = (h.in_time, λ is. absurd (true≢false (sym is ∙ came_none c x.event apart)));
  read = if_some link.taken (λ bytes k. (
    k.0,
    record {
      spellings = k.1.spellings;
      more = k.1.more;
      spelled = subst (λ (fs : List Frame). AreSpelled fs k.1.spellings) (sym (came_other past x c opened apart)) k.1.spelled;
      cut = k.1.cut;
      after = subst (λ (o : Option ℕ). IsAfter o g.max_in k.0 k.1.more) (sym (bad_other past x c apart)) k.1.after;
    },
    read_out_on g past x c k.1.more apart opened k.2,
  )) h.read;
}
