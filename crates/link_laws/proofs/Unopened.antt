-- A link on which no connection was opened has the same reason later.
use Rattle.std.proofs.Common.{inl, inr, ℕ, List, [], ◌∷◌, ◌++◌, Option, length-append, sym, subst, arith}
use Rattle.rs_wire.specs.declared.settings.Settings.{Settings}
use Rattle.rs_frame.specs.declared.frame.Frame.{Frame}
use Rattle.outside.specs.Links.{Shown}
use Rattle.tape.specs.declared.entry.Entry.{Entry}
use Rattle.link_model.proofs.Bytes.{if_some}
use Rattle.link_laws.specs.Unopened.{AreEarlier, Earns, IsOneFull, IsTurnedAway, IsTurnedAwayIn, IsTurnedAwayInOne, Unopened}

away_later : (first error : Frame) (more front : List Entry) → IsTurnedAwayIn first error front → IsTurnedAwayIn first error (more ++ front)
unfolding IsTurnedAwayIn
away_later first error [] front is = is
away_later first error (x ∷ more) front is = inr (away_later first error more front is)

away_in_one : (first error : Frame) (fronts tapes : List (List Entry)) → AreEarlier fronts tapes → IsTurnedAwayInOne first error fronts → IsTurnedAwayInOne first error tapes
away_in_one first error [] tapes earlier is = absurd is
away_in_one first error (front ∷ fronts) [] earlier is = absurd earlier
away_in_one first error (front ∷ fronts) (tape ∷ tapes) earlier (inl is) = inl (subst (IsTurnedAwayIn first error) (sym earlier.0.1) (away_later first error earlier.0.0 front is))
away_in_one first error (front ∷ fronts) (tape ∷ tapes) earlier (inr is) = inr (away_in_one first error fronts tapes earlier.1 is)

one_full : (fronts tapes : List (List Entry)) → AreEarlier fronts tapes → IsOneFull fronts → IsOneFull tapes
one_full [] tapes earlier is = absurd is
one_full (front ∷ fronts) [] earlier is = absurd earlier
one_full (front ∷ fronts) (tape ∷ tapes) earlier (inl is) = inl (rw earlier.0.1 (omega (arith, is, length-append earlier.0.0 front)))
one_full (front ∷ fronts) (tape ∷ tapes) earlier (inr is) = inr (one_full fronts tapes earlier.1 is)

earns_later : (most : ℕ) (fronts tapes : List (List Entry)) (bytes : List ℕ) (error : Frame) → AreEarlier fronts tapes → Earns most fronts bytes error → Earns most tapes bytes error
earns_later most fronts tapes bytes error earlier (inl bad) = inl bad
earns_later most fronts tapes bytes error earlier (inr whole) = inr (whole.0, (whole.1.0, whole.1.1, away_in_one whole.1.0 error fronts tapes earlier whole.1.2))

turned_away_later : (most : ℕ) (fronts tapes : List (List Entry)) (link : Shown) → AreEarlier fronts tapes → IsTurnedAway most fronts link → IsTurnedAway most tapes link
turned_away_later most fronts tapes link earlier is = record {
  error = is.error;
  earned = if_some link.taken (λ bytes earns. earns_later most fronts tapes bytes is.error earlier earns) is.earned;
  begins = is.begins;
  whole = is.whole;
}

pub unopened_later : (g : Settings) (moments : Option (List ℕ)) (fronts tapes : List (List Entry)) (link : Shown) → AreEarlier fronts tapes → Unopened g moments fronts link → Unopened g moments tapes link
unopened_later g moments fronts tapes link earlier (inl away) = inl (turned_away_later g.max_in fronts tapes link earlier away)
unopened_later g moments fronts tapes link earlier (inr (inl unbegun)) = inr (inl unbegun)
unopened_later g moments fronts tapes link earlier (inr (inr full)) = inr (inr (one_full fronts tapes earlier full))
