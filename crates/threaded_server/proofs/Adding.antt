-- What is kept goes on where entries are added that move no bytes but those of the connection that joins the ends.
use Rattle.std.proofs.Common.{◌≡◌, ◌≢◌, ◌<◌, ◌==◌, ◌||◌, inl, inr, ℕ, Bool, true, false, List, [], ◌∷◌, ◌++◌, refl, ap, sym, ◌∙◌, arith, append-nil, true≢false}
use Rattle.std.proofs.lemmas.Bool.Decides.{nat_tests}
use Rattle.std.specs.List.{AllByRecursion}
use Rattle.rs_wire.specs.declared.settings.Settings.{Settings}
use Rattle.rs_frame.specs.Framed.{framed_all}
use Rattle.tape.specs.declared.event.Event.{Event}
use Rattle.tape.specs.declared.event.Event.TheVariants as event
use Rattle.tape.specs.declared.entry.Entry.{Entry}
use Rattle.session_model.specs.Legal.{Legal}
use Rattle.session_model.specs.Life.{openings_in}
use Rattle.session_model.specs.Frames.{came}
use Rattle.session_model.specs.Joined.{IsOpening, refused}
use Rattle.link_model.specs.Carrying.{Between, Keeps, is_of}
use Rattle.link_model.proofs.Kept.{keeps_other}
use Rattle.ring.specs.declared.item.Item.{Item}
use Rattle.ring.specs.Parts.{cuts, part}
use Rattle.threaded_model.specs.Threaded.{cuts_in, has_cut, is_asked, moment_in, moments}
use Rattle.carriers.specs.Alone.{IsOurs, linked}
use Rattle.threaded_server.specs.Serving.{HasAccepted, HasRefused, HasServed, IsAt, KnowsNothing}
use Rattle.threaded_server.proofs.Entries.{first_on, off_on, opening_back, opening_on, read_on, refused_on, served_on}

-- it opens nothing, cuts nothing, tells no moment, and moves no bytes but those of connection c
pub record IsQuiet (c : ℕ) (e : Event) : Type 0 where
  pub no_opening : openings_in e ≡ 0
  pub no_cut : (d : ℕ) → cuts_in d e ≡ false
  pub no_moment : moment_in e ≡ []
  pub apart : (d : ℕ) → d ≢ c → is_of d e ≡ false

other : (conn c d : ℕ) → (conn == c) ≡ true → d ≢ c → (conn == d) ≡ false
other conn c d is ne = grind (arith, nat_tests, is, ne)

pub quiet_of : (c : ℕ) (e : Event) → is_of c e ≡ true → IsQuiet c e
quiet_of c (event.Draw conn room) is = record { no_opening = refl; no_cut = λ d. refl; no_moment = refl; apart = λ d ne. other conn c d is ne }
quiet_of c (event.Came conn f) is = record { no_opening = refl; no_cut = λ d. refl; no_moment = refl; apart = λ d ne. other conn c d is ne }
quiet_of c (event.Bad conn rule) is = record { no_opening = refl; no_cut = λ d. refl; no_moment = refl; apart = λ d ne. other conn c d is ne }
quiet_of c _ is = absurd (true≢false (sym is))

pub quiet_asked : (c : ℕ) (e : Event) → is_asked e ≡ true → IsQuiet c e
quiet_asked c (event.Asked call) is = record { no_opening = refl; no_cut = λ d. refl; no_moment = refl; apart = λ d ne. refl }
quiet_asked c _ is = absurd (true≢false (sym is))

pub quiet_ours : (c n : ℕ) (x : Entry) → IsOurs (λ e. is_of c e ≡ true) n x → IsQuiet c x.event
quiet_ours c n x (inl own) = quiet_of c x.event own.1
quiet_ours c n x (inr asks) = quiet_asked c x.event asks.1

of_asks_none : (c : ℕ) (e : Event) → is_of c e ≡ true → is_asked e ≡ false
of_asks_none c (event.Asked call) is = absurd (true≢false (sym is))
of_asks_none c _ is = refl

-- entries of this caller that name connection c ask nothing
pub ours_unasked : (c n : ℕ) (x : Entry) → IsOurs (λ e. is_of c e ≡ true) n x → x.who ≡ n → is_asked x.event ≡ false
ours_unasked c n x (inl own) who = of_asks_none c x.event own.1
ours_unasked c n x (inr asks) who = absurd (asks.0 who)

-- ---- the connections before

no_more : (b c : Bool) → c ≡ false → (b || c) ≡ true → b ≡ true
no_more true c none is = refl
no_more false c none is = absurd (true≢false (sym is ∙ none))

pub same_cuts : (S : List Entry) (x : Entry) (d : ℕ) → cuts_in d x.event ≡ false → has_cut (x ∷ S) d ≡ true → has_cut S d ≡ true
unfolding has_cut
same_cuts S x d none is = no_more (has_cut S d) (cuts_in d x.event) none is

pub same_moments : (S : List Entry) (x : Entry) → moment_in x.event ≡ [] → moments (x ∷ S) ≡ moments S
unfolding moments
same_moments S x none = ap (λ (l : List ℕ). moments S ++ l) none ∙ append-nil (moments S)

-- connection c is none of the former ones
abbrev pub IsNew : List Entry → (ℕ → ℕ) → ℕ → ℕ → Type 0
IsNew S place n c = (d : ℕ) → IsOpening S d → place d < n → d ≢ c

pub served_entry : (h : Settings) (S : List Entry) (x : Entry) (number c : ℕ) (place : ℕ → ℕ) (told : List ℕ) (sent received : List Item) → IsQuiet c x.event → (x.who ≡ number → is_asked x.event ≡ false) → IsNew S place (cuts sent) c → HasServed h S number place told sent received → HasServed h (x ∷ S) number place told sent received
served_entry h S x number c place told sent received q unasked new s = record {
  apart = λ d e od oe same. s.apart d e (back d od) (back e oe) same;
  within = λ d o. s.within d (back d o);
  served = λ d o lt. served_on h S x d (place d) sent received (back d o) (q.apart d (new d (back d o) lt)) (s.served d (back d o) lt);
  silent = λ k lt. elim (s.silent k lt) [
    | inl some ↦ inl (some.0, opening_on S x some.0 some.1, some.2)
    | inr none ↦ inr none
  ];
  cut = λ d is. let was = s.cut d (same_cuts S x d (q.no_cut d) is) in (opening_on S x d was.0, was.1);
  ticks = same_moments S x q.no_moment ∙ s.ticks;
  unasked = (unasked, s.unasked);
}
  where
    back : (d : ℕ) → IsOpening (x ∷ S) d → IsOpening S d
    back d o = opening_back S x d q.no_opening o

-- openings stay the same
pub opening_more : (more S : List Entry) (d : ℕ) → IsOpening S d → IsOpening (more ++ S) d
opening_more [] S d o = o
opening_more (x ∷ more) S d o = opening_on (more ++ S) x d (opening_more more S d o)

pub back_more : (number c : ℕ) (more S : List Entry) (d : ℕ) → AllByRecursion (IsOurs (λ e. is_of c e ≡ true) number) more → IsOpening (more ++ S) d → IsOpening S d
back_more number c [] S d ours o = o
back_more number c (x ∷ more) S d ours o = back_more number c more S d ours.1 (opening_back (more ++ S) x d (quiet_ours c number x ours.0).no_opening o)

pub served_more : (h : Settings) (more S : List Entry) (number c : ℕ) (place : ℕ → ℕ) (told : List ℕ) (sent received : List Item) → AllByRecursion (IsOurs (λ e. is_of c e ≡ true) number) more → IsNew S place (cuts sent) c → HasServed h S number place told sent received → HasServed h (more ++ S) number place told sent received
served_more h [] S number c place told sent received ours new s = s
served_more h (x ∷ more) S number c place told sent received ours new s =
    served_entry h (more ++ S) x number c place told sent received (quiet_ours c number x ours.0) (ours_unasked c number x ours.0) (λ d o lt. new d (back_more number c more S d ours.1 o) lt)
    (served_more h more S number c place told sent received ours.1 new s)

-- ---- the connection that joins the ends

pub refused_more : (more S : List Entry) (d : ℕ) → IsOpening S d → refused (more ++ S) d ≡ refused S d
refused_more [] S d o = refl
refused_more (x ∷ more) S d o = refused_on (more ++ S) x d (opening_more more S d o) ∙ refused_more more S d o

pub first_more : (more S : List Entry) (d : ℕ) → came S d ≢ [] → came (more ++ S) d ≢ []
first_more [] S d some = some
first_more (x ∷ more) S d some = first_on (more ++ S) x d (first_more more S d some)

pub at_more : (more S : List Entry) (place : ℕ → ℕ) (k d : ℕ) → IsAt S place k d → IsAt (more ++ S) place k d
at_more more S place k d a = record { opening = opening_more more S d a.opening; place_is = a.place_is; first = first_more more S d a.first }

-- ---- over entries that open nothing and move no bytes

pub record IsSpare (x : Entry) : Type 0 where
  pub no_opening : openings_in x.event ≡ 0
  pub apart : (d : ℕ) → is_of d x.event ≡ false

spare_event : (x : Entry) (e : Event) → is_asked e ≡ true → x.event ≡ e → IsSpare x
spare_event x (event.Asked call) is same = record { no_opening = ap openings_in same; apart = λ d. ap (is_of d) same }
spare_event x _ is same = absurd (true≢false (sym is))

pub spare_asked : (x : Entry) → is_asked x.event ≡ true → IsSpare x
spare_asked x is = spare_event x x.event is refl

pub legal_before : (h : Settings) (more S : List Entry) → Legal h (more ++ S) → Legal h S
unfolding Legal
legal_before h [] S l = l
legal_before h (x ∷ more) S l = legal_before h more S l.0

pub legal_last : (h : Settings) (x : Entry) (S : List Entry) → Legal h (x ∷ S) → Legal h S
legal_last h x S l = legal_before h (x ∷ []) S l

pub nothing_spared : (more S : List Entry) (place : ℕ → ℕ) (k : ℕ) (sent received : List Item) (rest : List ℕ) → AllByRecursion IsSpare more → KnowsNothing S place k sent received rest → KnowsNothing (more ++ S) place k sent received rest
nothing_spared [] S place k sent received rest spare n = n
nothing_spared (x ∷ more) S place k sent received rest spare n =
    let m = nothing_spared more S place k sent received rest spare.1 n in
    record { unopened = λ d o. m.unopened d (opening_back (more ++ S) x d spare.0.no_opening o); rest_is = m.rest_is; silent = m.silent }

pub keeps_spared : (h : Settings) (more S : List Entry) (given taken : List ℕ) (b : Between) → AllByRecursion IsSpare more → Keeps h S (linked given taken) b → Keeps h (more ++ S) (linked given taken) b
keeps_spared h [] S given taken b spare k = k
keeps_spared h (x ∷ more) S given taken b spare k = keeps_other h (more ++ S) x (linked given taken) b (spare.0.apart b.conn) (keeps_spared h more S given taken b spare.1 k)

pub accepted_spared : (h : Settings) (more S : List Entry) (place : ℕ → ℕ) (k : ℕ) (sent received : List Item) (b : Between) → AllByRecursion IsSpare more → HasAccepted h S place k sent received b → HasAccepted h (more ++ S) place k sent received b
accepted_spared h more S place k sent received b spare a = record {
  at = at_more more S place k b.conn a.at;
  unrefused = refused_more more S b.conn a.at.opening ∙ a.unrefused;
  none_left = a.none_left;
  kept = keeps_spared h more S (part k sent) (part k received) b spare a.kept;
}

refused_entry : (h : Settings) (S : List Entry) (x : Entry) (place : ℕ → ℕ) (k : ℕ) (sent received : List Item) (bytes : List ℕ) (count : ℕ) → IsSpare x → Legal h (x ∷ S) → HasRefused h S place k sent received bytes count → HasRefused h (x ∷ S) place k sent received bytes count
refused_entry h S x place k sent received bytes count spare legal r = record {
  d = r.d;
  at = at_more (x ∷ []) S place k r.d r.at;
  never_live = off_on h S x r.d legal r.at.opening r.never_live;
  bytes_are = r.bytes_are ∙ ap framed_all (sym (refused_on S x r.d r.at.opening));
  sent_are = r.sent_are;
  read = read_on h S x r.d (part k received) r.at.opening (spare.apart r.d) r.read;
}

pub refused_spared : (h : Settings) (more S : List Entry) (place : ℕ → ℕ) (k : ℕ) (sent received : List Item) (bytes : List ℕ) (count : ℕ) → AllByRecursion IsSpare more → Legal h (more ++ S) → HasRefused h S place k sent received bytes count → HasRefused h (more ++ S) place k sent received bytes count
refused_spared h [] S place k sent received bytes count spare legal r = r
refused_spared h (x ∷ more) S place k sent received bytes count spare legal r =
    refused_entry h (more ++ S) x place k sent received bytes count spare.0 legal (refused_spared h more S place k sent received bytes count spare.1 (legal_last h x (more ++ S) legal) r)
