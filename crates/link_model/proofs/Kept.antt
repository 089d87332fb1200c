-- What is kept when an entry is added, and when bytes move.
use Rattle.std.proofs.lemmas.Bool.Decides.{nat_tests}
use Rattle.std.proofs.Common.{◌≡◌, ◌≤◌, ◌+◌, ◌==◌, ◌∙◌, ℕ, true, false, List, [], ◌∷◌, ◌++◌, length, take, Option, Some, None, IfSome, is_some, true≢false, refl, sym, ap, subst, arith, append-nil, append_assoc}
use Rattle.std.proofs.Math.Seq.{take-add}
use Rattle.std.proofs.lemmas.List.{length-append, take-append-le, length-take-le}
use Rattle.std.specs.Io.KnownBytes.{append_known}
use Rattle.rs_wire.specs.declared.settings.Settings.{Settings}
use Rattle.rs_frame.specs.declared.frame.Frame.{Frame}
use Rattle.rs_frame.specs.Framed.{framed_all}
use Rattle.rs_frame.specs.Spelling.{Spells}
use Rattle.rs_chunk.specs.Stream.{IsCut, first_frame}
use Rattle.outside.specs.Links.{Shown}
use Rattle.tape.specs.Told.{entry_of}
use Rattle.tape.specs.declared.entry.Entry.{Entry}
use Rattle.tape.specs.declared.event.Event.TheVariants as event
use Rattle.tape.specs.declared.answer.Answer.{Answer}
use Rattle.tape.specs.declared.answer.Answer.TheVariants as answer
use Rattle.session_model.specs.Frames.{came, drawn, draws, due, first_bad, owes}
use Rattle.link_model.specs.Giving.{HasGiven, count_drawn, drawn_before, is_draw_of, next_drawn}
use Rattle.link_model.specs.Reading.{BeginsBad, HasRead, IsAfter}
use Rattle.link_model.specs.Carrying.{Between, Keeps, is_of}
use Rattle.link_model.proofs.Bytes.{bad_still, cut_still, if_more, if_some, spelled_more}
use Rattle.link_model.proofs.Same.{bad_other, bad_same, before_draw, before_other, before_same, came_other, came_same, bad_draws, brought, came_draws, drawn_same, first_is, due_more, opened_on}

-- the bytes that were drawn stay where more are due
drawn_still : (n : ℕ) (bytes more : List ℕ) → n ≤ length bytes → take n bytes ≡ take n (bytes ++ more)
drawn_still n bytes more le = sym (take-append-le n bytes more le)

-- where an entry changes nothing of the connection, but for what is due
same_given : (g : Settings) (past : List Entry) (x : Entry) (c : ℕ) (left given : List ℕ) → drawn (x ∷ past) c ≡ drawn past c → drawn_before (x ∷ past) c ≡ drawn_before past c → drawn past c ≤ length (framed_all (due g past c)) → HasGiven g past c left given → HasGiven g (x ∷ past) c left given
same_given g past x c left given d b within h = record {
  all = h.all ∙ (drawn_still (drawn past c) (framed_all (due g past c)) _ within ∙ (ap (take (drawn past c)) (sym (due_more g past x c)) ∙ ap (λ n. take n (framed_all (due g (x ∷ past) c))) (sym d)));
  least = subst (λ n. n ≤ length given) (sym b) h.least;
}

same_within : (g : Settings) (past : List Entry) (x : Entry) (c n : ℕ) → n ≤ length (framed_all (due g past c)) → n ≤ length (framed_all (due g (x ∷ past) c))
same_within g past x c n le = rw (due_more g past x c) (omega (arith, length-append (framed_all (due g past c)) (framed_all (owes g past c x.answer x.event))))

same_read : (frames new : List Frame) (bad newbad : Option ℕ) (most : ℕ) (rest taken : List ℕ) → new ≡ frames → newbad ≡ bad → HasRead frames bad most rest taken → HasRead new newbad most rest taken
same_read frames new bad newbad most rest taken f b h = subst (λ fs. HasRead fs newbad most rest taken) (sym f) (subst (λ o. HasRead frames o most rest taken) (sym b) h)

-- ---- an entry

-- one that moves no bytes of the connection
pub keeps_other : (g : Settings) (past : List Entry) (x : Entry) (s : Shown) (p : Between) → is_of p.conn x.event ≡ false → Keeps g past s p → Keeps g (x ∷ past) s p
keeps_other g past x s p apart k =
    let c = p.conn in
    let d = drawn_same past x c apart in
    let b = bad_other past x c apart in
    record {
      opened = opened_on past x c k.opened;
      bad = k.bad ∙ ap is_some (sym b);
      within = same_within g past x c _ (subst (λ n. n ≤ length (framed_all (due g past c))) (sym d) k.within);
      given = if_some s.given (λ given. same_given g past x c p.left given d (before_other past x c apart) k.within) k.given;
      taken = if_some s.taken (λ taken. same_read _ _ _ _ g.max_in p.rest taken (came_other past x c k.opened apart) b) k.taken;
    }

-- a draw on the connection that draws as many bytes as its answer says, of those that are due, where no drawn byte was left
pub keeps_draw : (g : Settings) (past : List Entry) (who room : ℕ) (a : Answer) (s : Shown) (p : Between) → p.left ≡ [] → drawn past p.conn + count_drawn a ≤ length (framed_all (due g past p.conn)) → Keeps g past s p
    → Keeps g (entry_of who (event.Draw p.conn room) a ∷ past) s (record p { left = next_drawn g past p.conn a })
unfolding drawn
keeps_draw g past who room a s p none within k =
    let c = p.conn in
    let x : Entry = entry_of who (event.Draw c room) a in
    let here : is_draw_of c x.event ≡ true = grind (arith, nat_tests) in
    let b : first_bad (x ∷ past) c ≡ first_bad past c = bad_same past x c refl in
    let more : drawn (x ∷ past) c ≡ drawn past c + count_drawn a = counted a in
    record {
      opened = opened_on past x c k.opened;
      bad = k.bad ∙ ap is_some (sym b);
      within = same_within g past x c _ (subst (λ n. n ≤ length (framed_all (due g past c))) (sym more) within);
      given = if_some s.given (λ (given : List ℕ) (h : HasGiven g past c p.left given). let all : given ≡ take (drawn past c) (framed_all (due g past c)) = sym (append-nil given) ∙ (ap (λ l. given ++ l) (sym none) ∙ h.all) in record {
        all = ap (λ t. t ++ next_drawn g past c a) all ∙ (sym (take-add (drawn past c) (count_drawn a) (framed_all (due g past c)))
            ∙ (drawn_still (drawn past c + count_drawn a) (framed_all (due g past c)) _ within
            ∙ (ap (take (drawn past c + count_drawn a)) (sym (due_more g past x c)) ∙ ap (λ n. take n (framed_all (due g (x ∷ past) c))) (sym more))));
        least = rw (before_draw past x c here) (omega (arith, ap length all, length-take-le (drawn past c) (framed_all (due g past c)) k.within));
      }) k.given;
      taken = if_some s.taken (λ taken. same_read _ _ _ _ g.max_in p.rest taken (came_same past x c refl) b) k.taken;
    }
  where
    counted : (a : Answer) → drawn past p.conn + draws p.conn a (event.Draw p.conn room) ≡ drawn past p.conn + count_drawn a
    counted (answer.Drawn n) = let same : (p.conn == p.conn) ≡ true = grind (arith, nat_tests) in rw same refl
    counted _ = refl

none_of : (o : Option ℕ) → is_some o ≡ false → o ≡ None
none_of None h = refl
none_of (Some n) h = absurd (true≢false h)

pub rest_of : (c most : ℕ) (frames : List Frame) (bad : Option ℕ) (rest taken : List ℕ) → bad ≡ None → (h : HasRead frames bad most rest taken) → h.more ≡ rest
rest_of c most frames bad rest taken none h = subst (λ o. IsAfter o most rest h.more) none h.after

-- a frame that stood in front, and is passed
pub keeps_came : (g : Settings) (past : List Entry) (who : ℕ) (f : Frame) (a : Answer) (s : Shown) (p : Between) (rest : List ℕ) → p.bad ≡ false → Spells f (first_frame p.rest)
    → ((fed : List ℕ) (passed : List (List ℕ)) → IsCut fed passed p.rest → IsCut fed (passed ++ first_frame p.rest ∷ []) rest) → Keeps g past s p
    → Keeps g (entry_of who (event.Came p.conn f) a ∷ past) s (record p { rest = rest })
unfolding came
keeps_came g past who f a s p rest good spells passes k =
    let c = p.conn in
    let x : Entry = entry_of who (event.Came c f) a in
    let b : first_bad (x ∷ past) c ≡ first_bad past c = bad_same past x c refl in
    let d : drawn (x ∷ past) c ≡ drawn past c = came_draws past who f a c in
    let none : first_bad past c ≡ None = none_of (first_bad past c) (sym k.bad ∙ good) in
    let one : came (x ∷ past) c ≡ came past c ++ f ∷ [] = ap (λ fs. came past c ++ fs) (brought past c f k.opened none) in
    record {
      opened = opened_on past x c k.opened;
      bad = k.bad ∙ ap is_some (sym b);
      within = same_within g past x c _ (subst (λ n. n ≤ length (framed_all (due g past c))) (sym d) k.within);
      given = if_some s.given (λ given. same_given g past x c p.left given d (before_same past x c refl) k.within) k.given;
      taken = if_some s.taken (λ taken h. same_read _ _ _ _ g.max_in rest taken one (b ∙ none) (read_more c taken none h)) k.taken;
    }
  where
    read_more : (c : ℕ) (taken : List ℕ) → first_bad past c ≡ None → HasRead (came past c) (first_bad past c) g.max_in p.rest taken → HasRead (came past c ++ f ∷ []) None g.max_in rest taken
    read_more c taken none h =
        let more : h.more ≡ p.rest = rest_of c g.max_in (came past c) (first_bad past c) p.rest taken none h in
        record {
          spellings = h.spellings ++ first_frame p.rest ∷ [];
          more = rest;
          spelled = spelled_more (came past c) h.spellings f (first_frame p.rest) h.spelled spells;
          cut = passes taken h.spellings (subst (IsCut taken h.spellings) more h.cut);
          after = refl;
        }

-- bytes that are no frame, and stay in front
pub keeps_bad : (g : Settings) (past : List Entry) (who rule : ℕ) (a : Answer) (s : Shown) (p : Between) → p.bad ≡ false → BeginsBad rule g.max_in p.rest → Keeps g past s p
    → Keeps g (entry_of who (event.Bad p.conn rule) a ∷ past) s (record p { bad = true })
keeps_bad g past who rule a s p good begins k =
    let c = p.conn in
    let x : Entry = entry_of who (event.Bad c rule) a in
    let none : first_bad past c ≡ None = none_of (first_bad past c) (sym k.bad ∙ good) in
    let b : first_bad (x ∷ past) c ≡ Some rule = first_is past who a c rule k.opened none in
    let d : drawn (x ∷ past) c ≡ drawn past c = bad_draws past who rule a c in
    record {
      opened = opened_on past x c k.opened;
      bad = ap is_some (sym b);
      within = same_within g past x c _ (subst (λ n. n ≤ length (framed_all (due g past c))) (sym d) k.within);
      given = if_some s.given (λ given. same_given g past x c p.left given d (before_same past x c refl) k.within) k.given;
      taken = if_some s.taken (λ taken h. same_read _ _ _ _ g.max_in p.rest taken (came_same past x c refl) b (read_bad c taken none h)) k.taken;
    }
  where
    read_bad : (c : ℕ) (taken : List ℕ) → first_bad past c ≡ None → HasRead (came past c) (first_bad past c) g.max_in p.rest taken → HasRead (came past c) (Some rule) g.max_in p.rest taken
    read_bad c taken none h =
        let more : h.more ≡ p.rest = rest_of c g.max_in (came past c) (first_bad past c) p.rest taken none h in
        record {
          spellings = h.spellings;
          more = p.rest;
          spelled = h.spelled;
          cut = subst (IsCut taken h.spellings) more h.cut;
          after = begins;
        }

-- ---- bytes of the link

-- the link was given bytes from the front of those left
pub keeps_give : (g : Settings) (past : List Entry) (s t : Shown) (p : Between) (piece left : List ℕ) → p.left ≡ piece ++ left → t.given ≡ append_known s.given piece → t.taken ≡ s.taken → Keeps g past s p → Keeps g past t (record p { left = left })
keeps_give g past s t p piece left parts given taken k = record {
  opened = k.opened;
  bad = k.bad;
  within = k.within;
  given = subst (λ o. IfSome o (HasGiven g past p.conn left)) (sym given) (if_more (HasGiven g past p.conn p.left) (HasGiven g past p.conn left) s.given piece (λ x h. record {
    all = append_assoc x piece left ∙ (ap (λ l. x ++ l) (sym parts) ∙ h.all);
    least = omega (arith, h.least, length-append x piece);
  }) k.given);
  taken = subst (λ o. IfSome o (HasRead (came past p.conn) (first_bad past p.conn) g.max_in p.rest)) (sym taken) k.taken;
}

-- bytes were taken, and follow the rest, or bytes had come that are no frame
pub keeps_take : (g : Settings) (past : List Entry) (s t : Shown) (p : Between) (piece rest : List ℕ) → (p.bad ≡ false → rest ≡ p.rest ++ piece) → t.taken ≡ append_known s.taken piece → t.given ≡ s.given → Keeps g past s p → Keeps g past t (record p { rest = rest })
keeps_take g past s t p piece rest parts taken given k = record {
  opened = k.opened;
  bad = k.bad;
  within = k.within;
  given = subst (λ o. IfSome o (HasGiven g past p.conn p.left)) (sym given) k.given;
  taken = subst (λ o. IfSome o (HasRead (came past p.conn) (first_bad past p.conn) g.max_in rest)) (sym taken) (if_more (HasRead (came past p.conn) (first_bad past p.conn) g.max_in p.rest) (HasRead (came past p.conn) (first_bad past p.conn) g.max_in rest) s.taken piece (λ x h. record {
    spellings = h.spellings;
    more = h.more ++ piece;
    spelled = h.spelled;
    cut = cut_still x piece h.spellings h.more h.cut;
    after = after_still (first_bad past p.conn) k.bad h.more h.after;
  }) k.taken);
}
  where
    after_still : (o : Option ℕ) → p.bad ≡ is_some o → (more : List ℕ) → IsAfter o g.max_in p.rest more → IsAfter o g.max_in rest (more ++ piece)
    after_still None is more h = ap (λ l. l ++ piece) h ∙ sym (parts is)
    after_still (Some rule) is more h = bad_still rule g.max_in more piece h
