-- A whole call, step by step, where its caller is alone.
use Rattle.std.proofs.Common.{◌≡◌, ◌∙◌, ℕ, Bool, false, List, [], ◌∷◌, ◌++◌, Option, Some, None, append_assoc, append-nil, inl, inr, sym, ap, subst}
use Rattle.rs_wire.specs.declared.words.Kind.{Kind}
use Rattle.rs_wire.specs.declared.settings.Settings.{Settings}
use Rattle.outside.specs.Links.{Shown}
use Rattle.tape.specs.declared.entry.Entry.{Entry}
use Rattle.conn_shared.specs.Members.{Knowledge}
use Rattle.call_model.specs.Order.{Asking}
use Rattle.call_model.specs.Saying.{said}
use Rattle.client.specs.Alone.{IsOwn}
use Rattle.std.specs.Option.{option_map}
use Rattle.call_model.specs.Leaving.{GotBack}
use Rattle.client.proofs.OverRuns.{got_none}
use Rattle.client.specs.Calling.{IsLast, CanBegin, Comes, GoesFrom, IsUnderWay, Owns, StepsTo, StopsFrom, is_finished}
use Rattle.client.specs.Takes.{HasPrinted}
use Rattle.client.specs.declared.called.Called.{Called}
use Rattle.client.specs.declared.called.Called.TheVariants as called
use Rattle.client.specs.declared.calling.Calling.{Calling}

pub prints_both : (kind : Kind) (e : Bool) (past mid new : List Entry) (out mid_out new_out : List ℕ) → HasPrinted kind false past mid out mid_out → HasPrinted kind e mid new mid_out new_out → HasPrinted kind e past new out new_out
prints_both kind e past mid new out mid_out new_out a b = record {
  more = a.more ++ b.more;
  printed = b.printed ∙ (ap (λ (l : List ℕ). l ++ b.more) a.printed ∙ append_assoc out a.more b.more);
  says = b.says ∙ (ap (λ (l : List ℕ). l ++ b.more) a.says ∙ append_assoc (said kind false past) a.more b.more);
}

got_both : (a b : List Shown) (back mid new : Option (List Shown)) → GotBack a back mid → GotBack b mid new → GotBack (a ++ b) back new
got_both a b None mid new x y = y ∙ ap (option_map (λ (l : List Shown). l ++ b)) x
got_both a b (Some was) mid new x y = y ∙ (ap (option_map (λ (l : List Shown). l ++ b)) x ∙ ap Some (append_assoc was a b))

last_both : (a b : List Shown) (last : Shown) (present : Option Shown) (back mid new : Option (List Shown)) → GotBack a back mid → IsLast last present b mid new → IsLast last present (a ++ b) back new
last_both a b last present back mid new x (inl here) = inl (here.0, got_both a b back mid new x here.1)
last_both a b last present back mid new x (inr gone) = inr (gone.0, subst (λ (l : List Shown). GotBack l back new) (sym (append_assoc a b (last ∷ []))) (got_both a (b ++ last ∷ []) back mid new x gone.1))

-- one step more of a call that goes on
pub goes_both : (w : Asking) (moments : Option (List ℕ)) (base faults faults' first : ℕ) (g : Settings) (past mid new : List Entry) (c c' : ℕ) (present present' : Option Shown) (k k' : Calling) (back mid_back new_back : Option (List Shown)) (out mid_out new_out : List ℕ) → (h : GoesFrom w moments base faults first g past mid c present k [] back mid_back out mid_out)
    → GoesFrom w moments base faults' first g mid new c' present' k' h.more mid_back new_back mid_out new_out → GoesFrom w moments base faults' first g past new c' present' k' [] back new_back out new_out
goes_both w moments base faults faults' first g past mid new c c' present present' k k' back mid_back new_back out mid_out new_out h s = record {
  more = h.more ++ s.more;
  got = got_both h.more s.more back mid_back new_back h.got s.got;
  under_way = s.under_way;
  prints = prints_both w.kind false past mid new out mid_out new_out h.prints s.prints;
}

pub stops_both : (r : Called) (w : Asking) (moments : Option (List ℕ)) (lulls tries base faults faults' first : ℕ) (g : Settings) (past mid new : List Entry) (c : ℕ) (present present' : Option Shown) (k : Calling) (back mid_back new_back : Option (List Shown)) (out mid_out new_out : List ℕ) → (h : GoesFrom w moments base faults first g past mid c present k [] back mid_back out mid_out)
    → StopsFrom r w moments lulls tries base faults' first g mid new present' h.more mid_back new_back mid_out new_out → StopsFrom r w moments lulls tries base faults' first g past new present' [] back new_back out new_out
stops_both r w moments lulls tries base faults faults' first g past mid new c present present' k back mid_back new_back out mid_out new_out h s = record {
  more = h.more ++ s.more;
  last = s.last;
  got = last_both h.more s.more s.last present' back mid_back new_back h.got s.got;
  number = s.number;
  ended = record {
    order = s.ended.order;
    timed = s.ended.timed;
    number = s.ended.number;
    opened = s.ended.opened;
    carried = s.ended.carried;
    left = s.ended.left;
    prints = prints_both w.kind (is_finished r) past mid new out mid_out new_out h.prints s.ended.prints;
    why = s.ended.why;
    timely = s.ended.timely;
    used_up = s.ended.used_up;
  };
}

module _ (w : Asking) (moments : Option (List ℕ)) (lulls tries base faults faults' first : ℕ) (g : Settings) (start mid now : Knowledge) (c c' : ℕ) (present present' : Option Shown) (k k' : Calling) (back mid_back new_back : Option (List Shown)) (out mid_out new_out : List ℕ) (P : Type 0) where
  -- the call goes on, where P holds
  abbrev pub Runs : Knowledge → ℕ → ℕ → Option Shown → Calling → Option (List Shown) → List ℕ → Type 0
  Runs at faults c present k back' out' = IsOwn at → IsOwn start × (P → GoesFrom w moments base faults first g start.front at.front c present k [] back back' out out')

  pub run_on : Runs mid faults c present k mid_back mid_out → (IsOwn now → IsOwn mid × ((base' first' : ℕ) (links : List Shown) → IsUnderWay w moments base' faults first' g mid.front c present k links → GoesFrom w moments base' faults' first' g mid.front now.front c' present' k' links mid_back new_back mid_out new_out)) → Runs now faults' c' present' k' new_back new_out
  run_on h s own =
      let b = s own in
      let a = h b.0 in
      (a.0, λ p. (let x = a.1 p in goes_both w moments base faults faults' first g start.front mid.front now.front c c' present present' k k' back mid_back new_back out mid_out new_out x (b.1 base first x.more x.under_way)))

  pub run_stops : (r : Called) → Runs mid faults c present k mid_back mid_out → (IsOwn now → Owns (Some r) (IsOwn mid × ((base' first' : ℕ) (links : List Shown) → IsUnderWay w moments base' faults first' g mid.front c present k links → StepsTo (Some r) w moments lulls tries base' faults' first' g mid.front now.front c' present' k' links mid_back new_back mid_out new_out)))
      → IsOwn now → Comes r (IsOwn start × (P → StopsFrom r w moments lulls tries base faults' first g start.front now.front present' [] back new_back out new_out))
  run_stops called.OutOfMemory h s own = tt
  run_stops called.Finished h s own = (let b = s own in let a = h b.0 in (a.0, λ p. (let x = a.1 p in stops_both called.Finished w moments lulls tries base faults faults' first g start.front mid.front now.front c present present' k back mid_back new_back out mid_out new_out x (b.1 base first x.more x.under_way))))
  run_stops called.Net h s own = (let b = s own in let a = h b.0 in (a.0, λ p. (let x = a.1 p in stops_both called.Net w moments lulls tries base faults faults' first g start.front mid.front now.front c present present' k back mid_back new_back out mid_out new_out x (b.1 base first x.more x.under_way))))
  run_stops (called.Dead last) h s own = (let b = s own in let a = h b.0 in (a.0, λ p. (let x = a.1 p in stops_both (called.Dead last) w moments lulls tries base faults faults' first g start.front mid.front now.front c present present' k back mid_back new_back out mid_out new_out x (b.1 base first x.more x.under_way))))
  run_stops (called.Idle n) h s own = (let b = s own in let a = h b.0 in (a.0, λ p. (let x = a.1 p in stops_both (called.Idle n) w moments lulls tries base faults faults' first g start.front mid.front now.front c present present' k back mid_back new_back out mid_out new_out x (b.1 base first x.more x.under_way))))
  run_stops (called.Refused why) h s own = (let b = s own in let a = h b.0 in (a.0, λ p. (let x = a.1 p in stops_both (called.Refused why) w moments lulls tries base faults faults' first g start.front mid.front now.front c present present' k back mid_back new_back out mid_out new_out x (b.1 base first x.more x.under_way))))

  -- the same, by what the steps say
  pub run_on_by : (gm : Settings) (result : Option Called) → gm ≡ g → result ≡ None → Runs mid faults c present k mid_back mid_out
      → (IsOwn now → Owns result (IsOwn mid × ((base' first' : ℕ) (links : List Shown) → IsUnderWay w moments base' faults first' gm mid.front c present k links → StepsTo result w moments lulls tries base' faults' first' gm mid.front now.front c' present' k' links mid_back new_back mid_out new_out))) → Runs now faults' c' present' k' new_back new_out
  run_on_by gm result st is h s = run_on h
      (subst (λ (z : Settings). IsOwn now → IsOwn mid × ((base' first' : ℕ) (links : List Shown) → IsUnderWay w moments base' faults first' z mid.front c present k links → GoesFrom w moments base' faults' first' z mid.front now.front c' present' k' links mid_back new_back mid_out new_out)) st
      (subst (λ (o : Option Called). IsOwn now → Owns o (IsOwn mid × ((base' first' : ℕ) (links : List Shown) → IsUnderWay w moments base' faults first' gm mid.front c present k links → StepsTo o w moments lulls tries base' faults' first' gm mid.front now.front c' present' k' links mid_back new_back mid_out new_out))) is s))

  pub run_stops_by : (gm : Settings) (result : Option Called) (r : Called) → gm ≡ g → result ≡ Some r → Runs mid faults c present k mid_back mid_out
      → (IsOwn now → Owns result (IsOwn mid × ((base' first' : ℕ) (links : List Shown) → IsUnderWay w moments base' faults first' gm mid.front c present k links → StepsTo result w moments lulls tries base' faults' first' gm mid.front now.front c' present' k' links mid_back new_back mid_out new_out)))
      → IsOwn now → Comes r (IsOwn start × (P → StopsFrom r w moments lulls tries base faults' first g start.front now.front present' [] back new_back out new_out))
  run_stops_by gm result r st is h s = run_stops r h
      (subst (λ (z : Settings). IsOwn now → Owns (Some r) (IsOwn mid × ((base' first' : ℕ) (links : List Shown) → IsUnderWay w moments base' faults first' z mid.front c present k links → StepsTo (Some r) w moments lulls tries base' faults' first' z mid.front now.front c' present' k' links mid_back new_back mid_out new_out))) st
      (subst (λ (o : Option Called). IsOwn now → Owns o (IsOwn mid × ((base' first' : ℕ) (links : List Shown) → IsUnderWay w moments base' faults first' gm mid.front c present k links → StepsTo o w moments lulls tries base' faults' first' gm mid.front now.front c' present' k' links mid_back new_back mid_out new_out))) is s))

-- the first step was the request
pub run_start : (w : Asking) (moments : Option (List ℕ)) (base first : ℕ) (g : Settings) (start now : Knowledge) (c0 c : ℕ) (present0 present : Option Shown) (k : Calling) (back : Option (List Shown)) (out : List ℕ)
    → (IsOwn now → IsOwn start × ((m : Option (List ℕ)) (n : ℕ) → CanBegin w m start.front c0 present0 → IsUnderWay w m n n first g now.front c present k [] × (said w.kind false now.front ≡ said w.kind false start.front)))
    → IsOwn now → IsOwn start × (CanBegin w moments start.front c0 present0 → GoesFrom w moments base base first g start.front now.front c present k [] back back out out)
run_start w moments base first g start now c0 c present0 present k back out h own =
    let a = h own in (
      a.0,
      λ can. (let b = a.1 moments base can in record {
        more = [];
        got = got_none back;
        under_way = b.0;
        prints = record { more = []; printed = sym (append-nil out); says = b.1 ∙ sym (append-nil (said w.kind false start.front)) };
      }),
    )
