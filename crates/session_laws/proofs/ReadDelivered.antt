-- What a stream delivers, by its words and by its frames.
use Rattle.std.proofs.Common.{◌≡◌, ◌||◌, ◌&&◌, ◌∙◌, ℕ, not, Bool, true, false, cond, List, [], ◌∷◌, ◌++◌, refl, sym, ap, append-nil}
use Rattle.rs_wire.specs.declared.words.Role.{Role}
use Rattle.rs_wire.specs.declared.words.Way.{Way}
use Rattle.rs_wire.specs.declared.delivery.Delivery.{Delivery}
use Rattle.rs_wire.specs.declared.settings.Settings.{Settings}
use Rattle.tape.specs.declared.entry.Entry.{Entry}
use Rattle.stream_model.specs.Laws.{ends_own, own_end}
use Rattle.stream_model.specs.Marks.{Opening, Step, Payload, RequestN, Cancel, Fail}
use Rattle.stream_model.specs.Turns.{Word, Said, Taken, Turn, brings, delivered, end_of, ends, inbound, is_role, is_whole, over, taken}
use Rattle.session_laws.specs.Read.{framed_step, framed_words}
use Rattle.session_laws.specs.Streams.{IsStream}
use Rattle.session_laws.proofs.Lawful.{laws_of}
use Rattle.session_laws.proofs.ReadWords.{no_more, same_ends, same_item, same_over, same_whole}

pub same_own_end : (o : Opening) (xs : List Word) → own_end o (framed_words o xs) ≡ own_end o xs
unfolding own_end framed_words
same_own_end o [] = refl
same_own_end o (Said by step ∷ xs) = rw (same_own_end o xs, same_over o xs (inbound o.role), same_ends o by step (inbound o.role)) refl
same_own_end o (Taken d ∷ xs) = same_own_end o xs ∙ sym (no_more (own_end o xs))

same_end_of : (o : Opening) (by : Role) (step : Step) → end_of (framed_step o by step) ≡ end_of step
same_end_of o by (Payload message complete next) = refl
same_end_of o by (RequestN n) = refl
same_end_of o by Cancel = refl
same_end_of o by (Fail code content) = refl

same_brings : (o : Opening) (whole : Bool) (w : Way) (by : Role) (step : Step) → brings o.kind whole w by (framed_step o by step) ≡ brings o.kind whole w by step
same_brings o whole w by step = rw (same_item o whole by step w, same_ends o by step w, same_end_of o by step) refl

neither : (a b : Bool) → (a || b) ≡ false → (a ≡ false) × (b ≡ false)
neither true b is = absurd (cc)
neither false b is = (refl, is)

-- a word that ends nothing of its own
one_word : (over mine last : Bool) (took took' before before' brought : List Delivery) → (not over && (mine && last)) ≡ false → before ≡ before'
    → cond over before (cond mine (cond last took before) (before ++ brought)) ≡ cond over before' (cond mine (cond last took' before') (before' ++ brought))
one_word true mine last took took' before before' brought stays same = same
one_word false true true took took' before before' brought stays same = absurd (cc)
one_word false true false took took' before before' brought stays same = same
one_word false false last took took' before before' brought stays same = ap (λ l. l ++ brought) same

same_word : (over over' mine last last' : Bool) (took took' before before' brought brought' : List Delivery) → over ≡ over' → last ≡ last' → before ≡ before' → brought ≡ brought' → (not over' && (mine && last')) ≡ false
    → cond over before (cond mine (cond last took before) (before ++ brought)) ≡ cond over' before' (cond mine (cond last' took' before') (before' ++ brought'))
same_word over over' mine last last' took took' before before' brought brought' is_over is_last same is_brought stays =
    rw (is_over, is_last, is_brought) (one_word over' mine last' took took' before before' brought' stays same)

pub same_delivered : (o : Opening) (xs : List Word) → own_end o xs ≡ false → delivered o (framed_words o xs) ≡ delivered o xs
unfolding delivered own_end framed_words
same_delivered o [] none = refl
same_delivered o (Said by step ∷ xs) none =
    let each = neither (own_end o xs) (ends_own o xs (Said by step)) none in
    let w = inbound o.role in
    let brought = ap (λ (whole : Bool). brings o.kind whole w by (framed_step o by step)) (same_whole o xs) ∙ same_brings o (is_whole o xs) w by step in
    same_word (over o (framed_words o xs) w) (over o xs w) (is_role o.role by) (ends o.kind w (Said by (framed_step o by step))) (ends o.kind w (Said by step)) (taken (framed_words o xs)) (taken xs) (delivered o (framed_words o xs)) (delivered o xs)
    (brings o.kind (is_whole o (framed_words o xs)) w by (framed_step o by step)) (brings o.kind (is_whole o xs) w by step)
    (same_over o xs w) (same_ends o by step w) (same_delivered o xs each.0) brought each.1
same_delivered o (Taken d ∷ xs) none = same_delivered o xs (neither (own_end o xs) false none).0

pub ended_taken : (g : Settings) (past : List Entry) (s : ℕ) (t : Turn) → IsStream g past s t → own_end t.opening t.words ≡ true → delivered t.opening t.words ≡ taken t.words
ended_taken g past s t is own =
    let laws = laws_of g past s t is in
    sym laws.taken ∙ (ap (λ (l : List Delivery). taken t.words ++ l) (laws.dropped own) ∙ append-nil (taken t.words))
