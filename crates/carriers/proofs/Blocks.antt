-- What several entries leave as it was. Entries stand newest first.
use Rattle.std.proofs.lemmas.Bool.Decides.{nat_tests}
use Rattle.std.proofs.Common.{◌≡◌, ◌≢◌, inl, inr, ◌∙◌, ℕ, Bool, true, false, List, [], ◌∷◌, ◌++◌, Some, None, refl, arith, append-nil}
use Rattle.std.specs.List.{AllByRecursion}
use Rattle.rs_wire.specs.declared.settings.Settings.{Settings}
use Rattle.outside.specs.Links.{Shown}
use Rattle.tape.specs.declared.entry.Entry.{Entry}
use Rattle.tape.specs.declared.event.Event.{Event}
use Rattle.tape.specs.declared.event.Event.TheVariants as event
use Rattle.session_model.specs.Frames.{brings, came, first_bad}
use Rattle.session_model.specs.Joined.{is_accepted}
use Rattle.link_model.specs.Carrying.{Between, Keeps, is_of}
use Rattle.link_model.proofs.Kept.{keeps_other}
use Rattle.link_model.proofs.Same.{bad_other}
use Rattle.threaded_model.specs.Threaded.{has_cut, is_act, is_asked}
use Rattle.carriers.specs.Alone.{IsOurs, NeverAsks}

pub all_as : {A : Type 0} (P Q : A → Type 0) → ((x : A) → P x → Q x) → (xs : List A) → AllByRecursion P xs → AllByRecursion Q xs
all_as P Q f [] h = tt
all_as P Q f (x ∷ xs) h = (f x h.0, all_as P Q f xs h.1)

pub all_both : {A : Type 0} (P : A → Type 0) (xs ys : List A) → AllByRecursion P xs → AllByRecursion P ys → AllByRecursion P (xs ++ ys)
all_both P [] ys h k = k
all_both P (x ∷ xs) ys h k = (h.0, all_both P xs ys h.1 k)

-- ---- what an entry is

-- an event of connection c is of no other
pub of_one : (c d : ℕ) (e : Event) → c ≢ d → is_of c e ≡ true → is_of d e ≡ false
of_one c d (event.Draw conn room) apart h = grind (arith, nat_tests)
of_one c d (event.Came conn f) apart h = grind (arith, nat_tests)
of_one c d (event.Bad conn rule) apart h = grind (arith, nat_tests)
of_one c d (event.Open first taken) apart h = refl
of_one c d (event.Cut conn) apart h = refl
of_one c d (event.Tick now) apart h = refl
of_one c d (event.Asked call) apart h = refl

pub asked_spares : (d : ℕ) (e : Event) → is_asked e ≡ true → is_of d e ≡ false
asked_spares d (event.Asked call) h = refl
asked_spares d (event.Draw conn room) h = absurd (cc h)
asked_spares d (event.Came conn f) h = absurd (cc h)
asked_spares d (event.Bad conn rule) h = absurd (cc h)
asked_spares d (event.Open first taken) h = absurd (cc h)
asked_spares d (event.Cut conn) h = absurd (cc h)
asked_spares d (event.Tick now) h = absurd (cc h)

-- it brings a first frame
abbrev pub is_first : Event → Bool
is_first (event.Open (Some f) taken) = true
is_first _ = false

pub asked_first : (e : Event) → is_asked e ≡ true → is_first e ≡ false
asked_first (event.Asked call) h = refl
asked_first (event.Draw conn room) h = absurd (cc h)
asked_first (event.Came conn f) h = absurd (cc h)
asked_first (event.Bad conn rule) h = absurd (cc h)
asked_first (event.Open first taken) h = absurd (cc h)
asked_first (event.Cut conn) h = absurd (cc h)
asked_first (event.Tick now) h = absurd (cc h)

pub asked_acts : (e : Event) → is_asked e ≡ true → is_act e ≡ false
asked_acts (event.Asked call) h = refl
asked_acts (event.Draw conn room) h = absurd (cc h)
asked_acts (event.Came conn f) h = absurd (cc h)
asked_acts (event.Bad conn rule) h = absurd (cc h)
asked_acts (event.Open first taken) h = absurd (cc h)
asked_acts (event.Cut conn) h = absurd (cc h)
asked_acts (event.Tick now) h = absurd (cc h)

-- what moves bytes of a connection opens, cuts, ticks and asks nothing
pub moves_first : (c : ℕ) (e : Event) → is_of c e ≡ true → is_first e ≡ false
moves_first c (event.Draw conn room) h = refl
moves_first c (event.Came conn f) h = refl
moves_first c (event.Bad conn rule) h = refl
moves_first c (event.Open first taken) h = absurd (cc h)
moves_first c (event.Cut conn) h = refl
moves_first c (event.Tick now) h = refl
moves_first c (event.Asked call) h = refl

pub moves_acts : (c : ℕ) (e : Event) → is_of c e ≡ true → is_act e ≡ false
moves_acts c (event.Draw conn room) h = refl
moves_acts c (event.Came conn f) h = refl
moves_acts c (event.Bad conn rule) h = refl
moves_acts c (event.Open first taken) h = absurd (cc h)
moves_acts c (event.Cut conn) h = absurd (cc h)
moves_acts c (event.Tick now) h = absurd (cc h)
moves_acts c (event.Asked call) h = refl

pub moves_asked : (c : ℕ) (e : Event) → is_of c e ≡ true → is_asked e ≡ false
moves_asked c (event.Draw conn room) h = refl
moves_asked c (event.Came conn f) h = refl
moves_asked c (event.Bad conn rule) h = refl
moves_asked c (event.Open first taken) h = refl
moves_asked c (event.Cut conn) h = refl
moves_asked c (event.Tick now) h = refl
moves_asked c (event.Asked call) h = absurd (cc h)

-- ---- several entries

-- each is what an entry of ours is, and of those who ask
pub ours_are : (P Q : Event → Type 0) (n : ℕ) → ((e : Event) → P e → Q e) → ((e : Event) → is_asked e ≡ true → Q e) → (more : List Entry) → AllByRecursion (IsOurs P n) more → AllByRecursion (λ (x : Entry). Q x.event) more
ours_are P Q n f a [] h = tt
ours_are P Q n f a (x ∷ more) h = (elim h.0 [ inl own ↦ f x.event own.1 | inr other ↦ a x.event other.1 ], ours_are P Q n f a more h.1)

pub never_asks_block : (P : Event → Type 0) (n : ℕ) → ((e : Event) → P e → is_asked e ≡ false) → (more past : List Entry) → AllByRecursion (IsOurs P n) more → NeverAsks n past → NeverAsks n (more ++ past)
never_asks_block P n f [] past h k = k
never_asks_block P n f (x ∷ more) past h k = (elim h.0 [ inl own ↦ λ is. f x.event own.1 | inr other ↦ λ is. absurd (other.0 is) ], never_asks_block P n f more past h.1 k)

pub keeps_block : (g : Settings) (more past : List Entry) (s : Shown) (b : Between) → AllByRecursion (λ (x : Entry). is_of b.conn x.event ≡ false) more → Keeps g past s b → Keeps g (more ++ past) s b
keeps_block g [] past s b h k = k
keeps_block g (x ∷ more) past s b h k = keeps_other g (more ++ past) x s b h.0 (keeps_block g more past s b h.1 k)

pub accepted_block : (more past : List Entry) (c : ℕ) → is_accepted past c ≡ true → is_accepted (more ++ past) c ≡ true
unfolding is_accepted
accepted_block [] past c h = h
accepted_block (x ∷ more) past c h = rw (accepted_block more past c h) refl

pub cut_block : (more past : List Entry) (c : ℕ) → has_cut past c ≡ true → has_cut (more ++ past) c ≡ true
unfolding has_cut
cut_block [] past c h = h
cut_block (x ∷ more) past c h = rw (cut_block more past c h) refl

brings_none : (past : List Entry) (c : ℕ) (e : Event) → is_of c e ≡ false → is_first e ≡ false → brings past c e ≡ []
brings_none past c (event.Came conn f) h k = rw h refl
brings_none past c (event.Open None taken) h k = refl
brings_none past c (event.Open (Some f) taken) h k = absurd (cc k)
brings_none past c (event.Draw conn room) h k = refl
brings_none past c (event.Bad conn rule) h k = refl
brings_none past c (event.Cut conn) h k = refl
brings_none past c (event.Tick now) h k = refl
brings_none past c (event.Asked call) h k = refl

-- what came on a connection of which nothing moves
pub came_block : (more past : List Entry) (c : ℕ) → AllByRecursion (λ (x : Entry). is_of c x.event ≡ false) more → AllByRecursion (λ (x : Entry). is_first x.event ≡ false) more → came (more ++ past) c ≡ came past c
unfolding came
came_block [] past c h k = refl
came_block (x ∷ more) past c h k = rw (brings_none (more ++ past) c x.event h.0 k.0) (append-nil (came (more ++ past) c) ∙ came_block more past c h.1 k.1)

pub bad_block : (more past : List Entry) (c : ℕ) → AllByRecursion (λ (x : Entry). is_of c x.event ≡ false) more → first_bad (more ++ past) c ≡ first_bad past c
bad_block [] past c h = refl
bad_block (x ∷ more) past c h = bad_other (more ++ past) x c h.0 ∙ bad_block more past c h.1
