-- Bytes that are given piece by piece.
use Rattle.std.proofs.Common.{◌≡◌, ◌∙◌, ℕ, Bool, true, false, List, [], ◌∷◌, ◌++◌, Option, Some, None, refl, ap, sym, subst, append-nil, append_assoc}
use Rattle.std.specs.Io.KnownBytes.{append_known}
use Rattle.outside.specs.Links.{Shown}
use Rattle.tape.specs.declared.event.Event.{Event}
use Rattle.tape.specs.declared.event.Event.TheVariants as event
use Rattle.tape.specs.declared.answer.Answer.{Answer}
use Rattle.tape.specs.declared.entry.Entry.{Entry}
use Rattle.rs_wire.specs.declared.settings.Settings.{Settings}
use Rattle.conn_shared.specs.Members.{Follows, Knowledge}
use Rattle.link_model.specs.Carrying.{Between}
use Rattle.pump.specs.Halves.{and_given}
use Rattle.pump.specs.Turns.{DrawsWhere, GoesOn, IsKept, Names}
use Rattle.pump.proofs.Adding.{IsOn, goes_both, goes_called, goes_follows, goes_none}
use Rattle.pump.proofs.Keeping.{kept_follows}
use Rattle.ring.specs.declared.item.Item.{Item}
use Rattle.ring.specs.declared.item.Item.TheVariants as item
use Rattle.ring.specs.Parts.{bytes_of}
use Rattle.carriers.specs.Moves.{HasGiven}

bytes_both : (a b : List ℕ) → bytes_of (a ++ b) ≡ bytes_of a ++ bytes_of b
bytes_both [] b = refl
bytes_both (x ∷ a) b = ap (λ l. item.Byte x ∷ l) (bytes_both a b)

given_none : (s : Shown) → and_given s [] ≡ s
given_none s = ap (λ (o : Option (List ℕ)). record s { given = o }) (known_none s.given)
  where
    known_none : (o : Option (List ℕ)) → append_known o [] ≡ o
    known_none None = refl
    known_none (Some l) = ap Some (append-nil l)

given_both : (s : Shown) (a b : List ℕ) → and_given (and_given s a) b ≡ and_given s (a ++ b)
given_both s a b = ap (λ (o : Option (List ℕ)). record s { given = o }) (known_both s.given)
  where
    known_both : (o : Option (List ℕ)) → append_known (append_known o a) b ≡ append_known o (a ++ b)
    known_both None = refl
    known_both (Some l) = ap Some (append_assoc l a b)

-- a draw adds nothing of this caller but a draw
pub draw_goes : (P : Event → Type 0) (due : Bool) (g : Settings) (me : Knowledge) (c room : ℕ) (old left : List ℕ) (new : List Entry) (a : Option Answer) → P (event.Draw c room) → DrawsWhere due g me c room a old left new → GoesOn P me new
draw_goes P true g me c room old left new (Some a) p h = goes_called P g me (event.Draw c room) a new p h.called
draw_goes P true g me c room old left new None p h = absurd h
draw_goes P false g me c room old left new (Some a) p h = absurd h
draw_goes P false g me c room old left new None p h = subst (GoesOn P me) (sym h.1) (goes_none P me)

-- nothing was given yet
pub gives_none : (me me' : Knowledge) (b : Between) (sent : List Item) → IsOn me me' → Follows me.names me.front me'.front → HasGiven me me' b b sent sent
gives_none me me' b sent on f = record {
  piece = [];
  sent = sym (append-nil sent);
  conn = refl;
  max_in = refl;
  goes = goes_follows (Names b.conn) me me'.front f;
  kept = λ s k. subst (λ (t : Shown). IsKept me' t b) (sym (given_none s)) (kept_follows me me' s b on f k);
}

-- one piece, and then another
pub gives_both : (me mid now : Knowledge) (a b c : Between) (x y z : List Item) → IsOn me mid → HasGiven me mid a b x y → HasGiven mid now b c y z → HasGiven me now a c x z
gives_both me mid now a b c x y z on h k = record {
  piece = h.piece ++ k.piece;
  sent = k.sent ∙ (ap (λ l. l ++ bytes_of k.piece) h.sent ∙ (append_assoc x (bytes_of h.piece) (bytes_of k.piece) ∙ ap (λ l. x ++ l) (sym (bytes_both h.piece k.piece))));
  conn = k.conn ∙ h.conn;
  max_in = k.max_in ∙ h.max_in;
  goes = goes_both (Names a.conn) me mid now.front on h.goes (subst (λ n. GoesOn (Names n) mid now.front) h.conn k.goes);
  kept = λ s kept. subst (λ (t : Shown). IsKept now t c) (given_both s h.piece k.piece) (k.kept (and_given s h.piece) (h.kept s kept));
}

-- a caller that has its note no more
pub on_noted : (was now : Knowledge) → now ≡ record was { front = now.front; note = None } → IsOn was now
on_noted was now e = e ∙ ap (λ (n : Option ℕ). record was { front = now.front; note = n }) (sym (ap (λ (x : Knowledge). x.note) e))
