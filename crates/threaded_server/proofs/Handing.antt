-- What the server's carrier hands back.
use Rattle.std.proofs.Common.{◌≡◌, ◌⊎◌, inl, inr, ℕ, true, List, [], ◌∷◌, ◌++◌, length, Option, None, refl, ap, sym, ◌∙◌, subst, arith, append-nil}
use Rattle.std.proofs.lemmas.List.{take_all}
use Rattle.std.proofs.lemmas.Bool.{cases_lt}
use Rattle.rs_wire.specs.declared.settings.Settings.{Settings}
use Rattle.tape.specs.declared.entry.Entry.{Entry}
use Rattle.rs_chunk.specs.Stream.{IsTooLong, IsWhole}
use Rattle.session_model.specs.Life.{closed, is_live, live}
use Rattle.session_model.specs.Frames.{came, first_bad, given, queued}
use Rattle.session_model.specs.Joined.{IsOpening}
use Rattle.link_model.specs.Carrying.{Between, Keeps}
use Rattle.link_model.specs.Reading.{HasRead, IsPart}
use Rattle.cable_script.specs.declared.line.Line.{Line}
use Rattle.ring.specs.declared.item.Mark.TheVariants as mark
use Rattle.ring.specs.declared.item.Item.{Item}
use Rattle.ring.specs.declared.item.Item.TheVariants as item
use Rattle.ring.specs.Parts.{cuts, part}
use Rattle.threaded_model.specs.Handed.{IsCarried, IsReadOn, IsReadOut, IsRefused, IsUnknown}
use Rattle.threaded_model.specs.Threaded.{told_by}
use Rattle.carriers.specs.Alone.{linked}
use Rattle.threaded_server.specs.declared.knows.Knows.{Knows}
use Rattle.threaded_server.specs.declared.knows.Knows.TheVariants as knows
use Rattle.threaded_server.specs.Serving.{HasAccepted, HasRefused, HasServed, IsServed, KnowsNothing}
use Rattle.threaded_server.specs.Carrying.{IsHere, ServerCarries, ServerHands}
use Rattle.carriers.proofs.Items.{cuts_both, part_later, part_marked}
use Rattle.threaded_server.proofs.Bytes.{IsOver, last_or, parts_served, some_or_none}
use Rattle.threaded_server.proofs.Carried.{here_over}

-- each opening was served
all_served : (h : Settings) (S : List Entry) (number : ℕ) (place : ℕ → ℕ) (told : List ℕ) (sent received : List Item) → IsOver h S place (cuts sent) sent received → HasServed h S number place told sent received → (d : ℕ) → IsOpening S d → IsServed h S d (place d) sent received
all_served h S number place told sent received over s d o = elim (last_or (cuts sent) (place d) (let w = s.within d o in omega (arith, w))) [
  | inl lt ↦ s.served d o lt
  | inr is ↦ subst (λ (k : ℕ). IsServed h S d k sent received) (sym is) (over.served d o is)
]

all_silent : (h : Settings) (S : List Entry) (number : ℕ) (place : ℕ → ℕ) (told : List ℕ) (sent received : List Item) → IsOver h S place (cuts sent) sent received → HasServed h S number place told sent received → (k : ℕ) → ((d : ℕ) × IsOpening S d × (place d ≡ k)) ⊎ (part k sent ≡ [])
all_silent h S number place told sent received over s k = elim (cases_lt (cuts sent) k) [
  | inl later ↦ inr (part_later k sent later)
  | inr within ↦ elim (last_or (cuts sent) k (omega (arith, within))) [
    | inl lt ↦ s.silent k lt
    | inr is ↦ subst (λ (j : ℕ). ((d : ℕ) × IsOpening S d × (place d ≡ j)) ⊎ (part j sent ≡ [])) (sym is) over.silent
  ]
]

-- marks leave all parts
here_marked : (h : Settings) (S : List Entry) (place : ℕ → ℕ) (k : ℕ) (s s' r r' : List Item) (kn : Knows) → part k s' ≡ part k s → part k r' ≡ part k r → IsHere h S place k s r kn → IsHere h S place k s' r' kn
here_marked h S place k s s' r r' (knows.Nothing reader) es er i = record { unopened = i.unopened; rest_is = i.rest_is ∙ sym er; silent = es ∙ i.silent }
here_marked h S place k s s' r r' (knows.Accepted conn b) es er i = record {
  at = i.at;
  unrefused = i.unrefused;
  none_left = i.none_left;
  kept = subst (λ (l : List ℕ). Keeps h S (linked l (part k r')) b) (sym es) (subst (λ (l : List ℕ). Keeps h S (linked (part k s) l) b) (sym er) i.kept);
}
here_marked h S place k s s' r r' (knows.Refused bytes pushed) es er i = record {
  d = i.d;
  at = i.at;
  never_live = i.never_live;
  bytes_are = i.bytes_are;
  sent_are = es ∙ i.sent_are;
  read = subst (IsReadOn h S i.d) (sym er) i.read;
}

one_end : cuts (item.Mark mark.End ∷ []) ≡ 0
unfolding cuts
one_end = refl

pub hands : (h : Settings) (S : List Entry) (number : ℕ) (lines : List Line) (kn : Knows) (sent received : List Item) → ServerCarries h S number lines 0 kn sent received → ServerHands h S number lines kn (cuts sent) (sent ++ item.Mark mark.End ∷ []) (received ++ item.Mark mark.End ∷ [])
hands h S number lines kn sent received s =
    let over = here_over h S number s.place (told_by lines) (cuts sent) sent received kn s.served s.here in
    let down = sent ++ item.Mark mark.End ∷ [] in
    let up = received ++ item.Mark mark.End ∷ [] in
    let all = λ (d : ℕ) (o : IsOpening S d). parts_served h S d (s.place d) sent down received up (part_marked (s.place d) sent mark.End) (part_marked (s.place d) received mark.End) (all_served h S number s.place (told_by lines) sent received over s.served d o) in
    record {
      place = s.place;
      keeps = record {
        apart = s.served.apart;
        gave = λ d o. (all d o).gave;
        silent = λ k. some_or_none S s.place k sent down (part_marked k sent mark.End) (all_silent h S number s.place (told_by lines) sent received over s.served k);
        read = λ d o. (all d o).read;
        first = λ d o. (all d o).first;
      };
      ticks = s.served.ticks;
      cut = λ d is. let was = s.served.cut d is in (was.0, (let lt = was.1 in let b = s.both in omega (arith, lt, b)));
      unasked = s.served.unasked;
      here = here_marked h S s.place (cuts sent) sent down received up kn (part_marked (cuts sent) sent mark.End) (part_marked (cuts sent) received mark.End) s.here;
      cuts_down = let a = cuts_both sent (item.Mark mark.End ∷ []) in let e = one_end in omega (arith, a, e);
      both = let a = cuts_both received (item.Mark mark.End ∷ []) in let e = one_end in let b = s.both in omega (arith, a, e, b);
      ended = (sent, refl, s.open_end);
    }

-- ---- what is done on the connection that joins the ends

-- a length that is too long stands in front of what was read
pub done_unknown : (h : Settings) (S : List Entry) (place : ℕ → ℕ) (n : ℕ) (down up : List Item) (bytes : List ℕ) → KnowsNothing S place n down up bytes → IsTooLong bytes h.max_in → IsUnknown h S place n up
done_unknown h S place n down up bytes k long = record { unopened = k.unopened; long = subst (λ (l : List ℕ). IsTooLong l h.max_in) k.rest_is long }

-- all that was drawn was pushed
pub done_gave : (h : Settings) (S : List Entry) (place : ℕ → ℕ) (n : ℕ) (down up : List Item) (b : Between) → HasAccepted h S place n down up b → part n down ≡ given h S b.conn
done_gave h S place n down up b a = sym (append-nil (part n down)) ∙ (ap (λ (l : List ℕ). part n down ++ l) (sym a.none_left) ∙ a.kept.given.all)

pub done_accepted : (g h : Settings) (C S : List Entry) (place : ℕ → ℕ) (n c : ℕ) (down up : List Item) (read_down : List ℕ) (b : Between) → HasAccepted h S place n down up b
    → (is_live (live S) b.conn ≡ true → (queued h S ≡ 0) × (closed h S ≡ None → IsReadOut h S b.conn (part n up)) × (closed g C ≡ None → IsReadOut g C c read_down))
    → IsCarried g h C S c b.conn (part n up) (part n down) read_down
done_accepted g h C S place n c down up read_down b a all = record { accepted = a.unrefused; gave = done_gave h S place n down up b a; all = all }

-- nothing stands in front that can come: all that was read there came
pub done_read : (h : Settings) (S : List Entry) (place : ℕ → ℕ) (n : ℕ) (down up : List Item) (b : Between) → HasAccepted h S place n down up b → first_bad S b.conn ≡ None → b.max_in ≡ h.max_in → IsPart b.rest b.max_in → IsReadOut h S b.conn (part n up)
done_read h S place n down up b a good limit p = record {
  good = good;
  rest = b.rest;
  read = subst (λ (o : Option ℕ). HasRead (came S b.conn) o h.max_in b.rest (part n up)) good a.kept.taken;
  no_frame = λ w. absurd (p.0 (subst (IsWhole b.rest) (sym limit) w));
  no_length = λ l. absurd (p.1 (subst (IsTooLong b.rest) (sym limit) l));
}

-- the refusal was pushed whole
pub done_refused : (g h : Settings) (C S : List Entry) (place : ℕ → ℕ) (n c : ℕ) (down up : List Item) (read_down bytes : List ℕ) (pushed : ℕ) → (r : HasRefused h S place n down up bytes pushed) → pushed ≡ length bytes → IsReadOut g C c read_down → IsRefused g C S c r.d (part n down) read_down
done_refused g h C S place n c down up read_down bytes pushed r whole heard = record {
  never_live = r.never_live;
  sent = r.sent_are ∙ (take_all pushed bytes (omega (arith, whole)) ∙ r.bytes_are);
  heard = heard;
}
