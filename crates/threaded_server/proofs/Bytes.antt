-- What is kept goes on where items are pushed and read.
use Rattle.std.proofs.Common.{◌≡◌, ◌<◌, ◌≤◌, ◌+◌, ◌⊎◌, inl, inr, ℕ, suc, List, [], ◌∷◌, ◌++◌, length, take, drop, Option, Some, None, refl, ap, sym, ◌∙◌, subst, arith, append-nil}
use Rattle.std.proofs.lemmas.Bool.{cases_lt}
use Rattle.std.proofs.lemmas.List.{take_all}
use Rattle.std.proofs.Math.Seq.{take-add, take-nil}
use Rattle.rs_wire.specs.declared.settings.Settings.{Settings}
use Rattle.rs_frame.specs.declared.frame.Frame.{Frame}
use Rattle.rs_frame.specs.Framed.{framed_all}
use Rattle.tape.specs.declared.entry.Entry.{Entry}
use Rattle.session_model.specs.Lists.{IsPrefix}
use Rattle.session_model.specs.Frames.{came, drawn, due, first_bad}
use Rattle.session_model.specs.Joined.{IsOpening, offered, refused, unless_refused}
use Rattle.session_laws.proofs.Prefixes.{prefix_nil, prefix_take}
use Rattle.link_model.specs.Carrying.{Between, Keeps}
use Rattle.link_model.specs.Reading.{HasRead}
use Rattle.link_model.proofs.Bytes.{bad_still, cut_still}
use Rattle.ring.specs.declared.item.Item.{Item}
use Rattle.ring.specs.Parts.{cuts, part}
use Rattle.threaded_model.specs.Handed.{IsReadOn}
use Rattle.threaded_server.specs.Serving.{HasAccepted, HasRefused, HasServed, IsAt, IsServed, KnowsNothing}
use Rattle.carriers.specs.Alone.{linked}
use Rattle.carriers.proofs.Items.{Cuts, Grows}

-- ---- the bytes of a part

pub parts_served : (h : Settings) (S : List Entry) (d k : ℕ) (s s' r r' : List Item) → part k s' ≡ part k s → part k r' ≡ part k r → IsServed h S d k s r → IsServed h S d k s' r'
parts_served h S d k s s' r r' es er v = record {
  gave = subst (λ (l : List ℕ). IsPrefix l (offered h S d)) (sym es) v.gave;
  read = subst (IsReadOn h S d) (sym er) v.read;
  first = v.first;
}

pub some_or_none : (S : List Entry) (place : ℕ → ℕ) (k : ℕ) (s s' : List Item) → part k s' ≡ part k s → ((d : ℕ) × IsOpening S d × (place d ≡ k)) ⊎ (part k s ≡ []) → ((d : ℕ) × IsOpening S d × (place d ≡ k)) ⊎ (part k s' ≡ [])
some_or_none S place k s s' e (inl some) = inl some
some_or_none S place k s s' e (inr none) = inr (e ∙ none)

-- ---- the connections before

-- items were pushed, none of which is a cut
pub served_sent : (h : Settings) (S : List Entry) (number : ℕ) (place : ℕ → ℕ) (told : List ℕ) (sent sent' received : List Item) (piece : List ℕ) → Grows piece sent sent' → HasServed h S number place told sent received → HasServed h S number place told sent' received
served_sent h S number place told sent sent' received piece g s =
    let same = g.same_cuts in
    record {
      apart = s.apart;
      within = λ d o. let w = s.within d o in omega (arith, w, same);
      served = λ d o lt. let le : place d < cuts sent = omega (arith, lt, same) in parts_served h S d (place d) sent sent' received received (g.before (place d) le) refl (s.served d o le);
      silent = λ k lt. let le : k < cuts sent = omega (arith, lt, same) in some_or_none S place k sent sent' (g.before k le) (s.silent k le);
      cut = s.cut;
      ticks = s.ticks;
      unasked = s.unasked;
    }

-- items were read
pub served_received : (h : Settings) (S : List Entry) (number : ℕ) (place : ℕ → ℕ) (told : List ℕ) (sent received received' : List Item) → ((k : ℕ) → k < cuts received → part k received' ≡ part k received) → cuts received ≤ cuts received' → cuts sent ≤ cuts received → HasServed h S number place told sent received → HasServed h S number place told sent received'
served_received h S number place told sent received received' before more within s = record {
  apart = s.apart;
  within = s.within;
  served = λ d o lt. let le : place d < cuts received = omega (arith, lt, within) in parts_served h S d (place d) sent sent received received' refl (before (place d) le) (s.served d o lt);
  silent = s.silent;
  cut = λ d is. let was = s.cut d is in (was.0, (let lt = was.1 in omega (arith, more, lt)));
  ticks = s.ticks;
  unasked = s.unasked;
}

-- what is kept of the connection that joins the ends, as of one before
pub record IsOver (h : Settings) (S : List Entry) (place : ℕ → ℕ) (k : ℕ) (sent received : List Item) : Type 0 where
  pub served : (d : ℕ) → IsOpening S d → place d ≡ k → IsServed h S d k sent received
  pub silent : ((d : ℕ) × IsOpening S d × (place d ≡ k)) ⊎ (part k sent ≡ [])

pub last_or : (n k : ℕ) → k < suc n → (k < n) ⊎ (k ≡ n)
last_or n k lt = elim (cases_lt k n) [
  | inl le ↦ inl le
  | inr le ↦ inr (omega (arith, lt, le))
]

-- a cut was pushed
pub served_cut : (h : Settings) (S : List Entry) (number : ℕ) (place : ℕ → ℕ) (told : List ℕ) (sent sent' received : List Item) → Cuts [] sent sent' → IsOver h S place (cuts sent) sent received → HasServed h S number place told sent received → HasServed h S number place told sent' received
served_cut h S number place told sent sent' received c over s =
    let one = c.one_more in
    let last : part (cuts sent) sent' ≡ part (cuts sent) sent = c.last ∙ append-nil (part (cuts sent) sent) in
    record {
      apart = s.apart;
      within = λ d o. let w = s.within d o in omega (arith, w, one);
      served = λ d o lt. elim (last_or (cuts sent) (place d) (omega (arith, lt, one))) [
        | inl le ↦ parts_served h S d (place d) sent sent' received received (c.before (place d) le) refl (s.served d o le)
        | inr is ↦ subst (λ (k : ℕ). IsServed h S d k sent' received) (sym is) (parts_served h S d (cuts sent) sent sent' received received last refl (over.served d o is))
      ];
      silent = λ k lt. elim (last_or (cuts sent) k (omega (arith, lt, one))) [
        | inl le ↦ some_or_none S place k sent sent' (c.before k le) (s.silent k le)
        | inr is ↦ subst (λ (j : ℕ). ((d : ℕ) × IsOpening S d × (place d ≡ j)) ⊎ (part j sent' ≡ [])) (sym is) (some_or_none S place (cuts sent) sent sent' last over.silent)
      ];
      cut = s.cut;
      ticks = s.ticks;
      unasked = s.unasked;
    }

-- ---- the connection that joins the ends, as one before

pub nothing_over : (h : Settings) (S : List Entry) (place : ℕ → ℕ) (k : ℕ) (sent received : List Item) (rest : List ℕ) → KnowsNothing S place k sent received rest → IsOver h S place k sent received
nothing_over h S place k sent received rest n = record { served = λ d o is. absurd (n.unopened d o is); silent = inr n.silent }

offered_is : (h : Settings) (S : List Entry) (d : ℕ) (fs : List Frame) → refused S d ≡ fs → offered h S d ≡ take (unless_refused fs (drawn S d) (length (framed_all fs))) (framed_all (unless_refused fs (due h S d) fs))
offered_is h S d fs is = ap (λ (l : List Frame). take (unless_refused l (drawn S d) (length (framed_all l))) (framed_all (unless_refused l (due h S d) l))) is

same_opening : (h : Settings) (S : List Entry) (number : ℕ) (place : ℕ → ℕ) (told : List ℕ) (k : ℕ) (sent received : List Item) (d e : ℕ) → HasServed h S number place told sent received → IsAt S place k e → IsOpening S d → place d ≡ k → e ≡ d
same_opening h S number place told k sent received d e s a o is = s.apart e d a.opening o (a.place_is ∙ sym is)

accepted_is : (h : Settings) (S : List Entry) (place : ℕ → ℕ) (k : ℕ) (sent received : List Item) (b : Between) → HasAccepted h S place k sent received b → IsServed h S b.conn k sent received
accepted_is h S place k sent received b a = record {
  gave = subst (λ (l : List ℕ). IsPrefix (part k sent) l) (sym (offered_is h S b.conn [] a.unrefused)) (b.left, a.kept.given.all);
  read = record { rest = b.rest; read = a.kept.taken };
  first = a.at.first;
}

pub accepted_over : (h : Settings) (S : List Entry) (number : ℕ) (place : ℕ → ℕ) (told : List ℕ) (k : ℕ) (sent received : List Item) (b : Between) → HasServed h S number place told sent received → HasAccepted h S place k sent received b → IsOver h S place k sent received
accepted_over h S number place told k sent received b s a = record {
  served = λ d o is. subst (λ (e : ℕ). IsServed h S e k sent received) (same_opening h S number place told k sent received d b.conn s a.at o is) (accepted_is h S place k sent received b a);
  silent = inl (b.conn, a.at.opening, a.at.place_is);
}

begins_whole : (count : ℕ) (xs : List ℕ) → IsPrefix (take count xs) (take (length xs) xs)
begins_whole count xs = subst (λ (l : List ℕ). IsPrefix (take count xs) l) (sym (take_all (length xs) xs (omega arith))) (prefix_take count xs)

offers : (h : Settings) (S : List Entry) (d count : ℕ) (fs : List Frame) → refused S d ≡ fs → IsPrefix (take count (framed_all fs)) (offered h S d)
offers h S d count [] is = subst (λ (l : List ℕ). IsPrefix l (offered h S d)) (sym (take-nil count)) (prefix_nil (offered h S d))
offers h S d count (f ∷ fs) is = subst (λ (l : List ℕ). IsPrefix (take count (framed_all (f ∷ fs))) l) (sym (offered_is h S d (f ∷ fs) is)) (begins_whole count (framed_all (f ∷ fs)))

refused_is : (h : Settings) (S : List Entry) (place : ℕ → ℕ) (k : ℕ) (sent received : List Item) (bytes : List ℕ) (count : ℕ) → (r : HasRefused h S place k sent received bytes count) → IsServed h S r.d k sent received
refused_is h S place k sent received bytes count r = record {
  gave = subst (λ (l : List ℕ). IsPrefix l (offered h S r.d)) (sym (r.sent_are ∙ ap (take count) r.bytes_are)) (offers h S r.d count (refused S r.d) refl);
  read = r.read;
  first = r.at.first;
}

pub refused_over : (h : Settings) (S : List Entry) (number : ℕ) (place : ℕ → ℕ) (told : List ℕ) (k : ℕ) (sent received : List Item) (bytes : List ℕ) (count : ℕ) → HasServed h S number place told sent received → HasRefused h S place k sent received bytes count → IsOver h S place k sent received
refused_over h S number place told k sent received bytes count s r = record {
  served = λ d o is. subst (λ (e : ℕ). IsServed h S e k sent received) (same_opening h S number place told k sent received d r.d s r.at o is) (refused_is h S place k sent received bytes count r);
  silent = inl (r.d, r.at.opening, r.at.place_is);
}

-- ---- bytes are pushed and read there

-- where more bytes were read, they follow the rest
pub read_more : (most : ℕ) (frames : List Frame) (bad : Option ℕ) (rest taken piece : List ℕ) → HasRead frames bad most rest taken → (rest' : List ℕ) × HasRead frames bad most rest' (taken ++ piece)
read_more most frames None rest taken piece r = (
  rest ++ piece,
  record {
    spellings = r.spellings;
    more = r.more ++ piece;
    spelled = r.spelled;
    cut = cut_still taken piece r.spellings r.more r.cut;
    after = ap (λ (l : List ℕ). l ++ piece) r.after;
  },
)
read_more most frames (Some rule) rest taken piece r = (
  rest,
  record {
    spellings = r.spellings;
    more = r.more ++ piece;
    spelled = r.spelled;
    cut = cut_still taken piece r.spellings r.more r.cut;
    after = bad_still rule most r.more piece r.after;
  },
)

pub read_still : (g : Settings) (S : List Entry) (d : ℕ) (taken piece : List ℕ) → IsReadOn g S d taken → IsReadOn g S d (taken ++ piece)
read_still g S d taken piece r = let m = read_more g.max_in (came S d) (first_bad S d) r.rest taken piece r.read in record { rest = m.0; read = m.1 }

-- items were pushed that leave its bytes, and others read
pub accepted_parts : (h : Settings) (S : List Entry) (place : ℕ → ℕ) (k : ℕ) (s s' r r' : List Item) (b : Between) → part k s' ≡ part k s → part k r' ≡ part k r → HasAccepted h S place k s r b → HasAccepted h S place k s' r' b
accepted_parts h S place k s s' r r' b es er a = record {
  at = a.at;
  unrefused = a.unrefused;
  none_left = a.none_left;
  kept = subst (λ (l : List ℕ). Keeps h S (linked l (part k r')) b) (sym es) (subst (λ (l : List ℕ). Keeps h S (linked (part k s) l) b) (sym er) a.kept);
}

pub refused_parts : (h : Settings) (S : List Entry) (place : ℕ → ℕ) (k : ℕ) (s s' r : List Item) (refusal : List ℕ) (count : ℕ) → part k s' ≡ part k s → HasRefused h S place k s r refusal count → HasRefused h S place k s' r refusal count
refused_parts h S place k s s' r refusal count es f = record {
  d = f.d;
  at = f.at;
  never_live = f.never_live;
  bytes_are = f.bytes_are;
  sent_are = es ∙ f.sent_are;
  read = f.read;
}

pub nothing_parts : (S : List Entry) (place : ℕ → ℕ) (k : ℕ) (s s' r : List Item) (rest : List ℕ) → part k s' ≡ part k s → KnowsNothing S place k s r rest → KnowsNothing S place k s' r rest
nothing_parts S place k s s' r rest es n = record { unopened = n.unopened; rest_is = n.rest_is; silent = es ∙ n.silent }

-- bytes were read where it knows of nothing
pub nothing_read : (S : List Entry) (place : ℕ → ℕ) (k : ℕ) (s r r' : List Item) (rest bytes : List ℕ) → part k r' ≡ part k r ++ bytes → KnowsNothing S place k s r rest → KnowsNothing S place k s r' (rest ++ bytes)
nothing_read S place k s r r' rest bytes er n = record { unopened = n.unopened; rest_is = ap (λ (l : List ℕ). l ++ bytes) n.rest_is ∙ sym er; silent = n.silent }

-- bytes were read of a connection that was refused
pub refused_read : (h : Settings) (S : List Entry) (place : ℕ → ℕ) (k : ℕ) (s r r' : List Item) (refusal bytes : List ℕ) (count : ℕ) → part k r' ≡ part k r ++ bytes → HasRefused h S place k s r refusal count → HasRefused h S place k s r' refusal count
refused_read h S place k s r r' refusal bytes count er f = record {
  d = f.d;
  at = f.at;
  never_live = f.never_live;
  bytes_are = f.bytes_are;
  sent_are = f.sent_are;
  read = subst (IsReadOn h S f.d) (sym er) (read_still h S f.d (part k r) bytes f.read);
}

-- bytes of the refusal were pushed
pub refused_sent : (h : Settings) (S : List Entry) (place : ℕ → ℕ) (k : ℕ) (s s' r : List Item) (refusal : List ℕ) (count more : ℕ) → part k s' ≡ part k s ++ take more (drop count refusal) → HasRefused h S place k s r refusal count → HasRefused h S place k s' r refusal (count + more)
refused_sent h S place k s s' r refusal count more es f = record {
  d = f.d;
  at = f.at;
  never_live = f.never_live;
  bytes_are = f.bytes_are;
  sent_are = es ∙ (ap (λ (l : List ℕ). l ++ take more (drop count refusal)) f.sent_are ∙ sym (take-add count more refusal));
  read = f.read;
}
