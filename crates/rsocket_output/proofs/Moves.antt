-- Bytes that are written, piece by piece.
use Rattle.std.proofs.Common.{◌≡◌, ℕ, List, [], ◌++◌, take, drop, Option, refl, sym, ap, ◌∙◌, append_assoc, append-nil, take-append-drop, arith}
use Rattle.std.proofs.lemmas.Grind.{common_steps}
use Rattle.std.specs.Io.KnownBytes.{append_known}
use Rattle.outside.specs.Causes.{one_more}
use Rattle.outside.specs.Streams.{ByteStream}
use Rattle.rsocket_output.specs.Written.{CutOff, Writes}

-- a front of the bytes is written, and these are left
pub record Written (old now : Option (List ℕ)) (bytes rest : List ℕ) : Type 0 where
  pub front : List ℕ
  pub split : bytes ≡ front ++ rest
  pub wrote : now ≡ append_known old front

pub append_known-append : (old : Option (List ℕ)) (a b : List ℕ) → append_known (append_known old a) b ≡ append_known old (a ++ b)
append_known-append old a b = grind (arith, common_steps)

pub append_known-nil : (old : Option (List ℕ)) → old ≡ append_known old []
append_known-nil old = grind (arith, common_steps)

pub nothing_written : (old : Option (List ℕ)) (bytes : List ℕ) → Written old old bytes bytes
nothing_written old bytes = record { front = []; split = refl; wrote = append_known-nil old }

pub more_written : (old now next : Option (List ℕ)) (bytes rest : List ℕ) (n : ℕ) → Written old now bytes rest → next ≡ append_known now (take n rest) → Written old next bytes (drop n rest)
more_written old now next bytes rest n w e = record {
  front = w.front ++ take n rest;
  split = w.split ∙ ap (λ (r : List ℕ). w.front ++ r) (sym (take-append-drop n rest)) ∙ sym (append_assoc w.front (take n rest) (drop n rest));
  wrote = e ∙ ap (λ (o : Option (List ℕ)). append_known o (take n rest)) w.wrote ∙ append_known-append old w.front (take n rest);
}

pub all_written : (old now : ByteStream) (bytes rest : List ℕ) → Written old.told now.told bytes rest → now.faults ≡ old.faults → rest ≡ [] → Writes bytes old now
all_written old now bytes rest w same none = record {
  told = w.wrote ∙ ap (append_known old.told) (sym (w.split ∙ ap (λ (r : List ℕ). w.front ++ r) none ∙ append-nil w.front));
  faults = same;
}

pub cut_off : (old now next : ByteStream) (bytes rest : List ℕ) → Written old.told now.told bytes rest → now.faults ≡ old.faults → next.told ≡ now.told → next.faults ≡ one_more now.faults → CutOff bytes old next
cut_off old now next bytes rest w same kept counted = record {
  written = w.front;
  rest = rest;
  text_is = w.split;
  told = kept ∙ w.wrote;
  faults = counted ∙ ap one_more same;
}

-- ---- one text after another

pub writes_none : (s : ByteStream) → Writes [] s s
writes_none s = record { told = append_known-nil s.told; faults = refl }

pub writes_more : (old now new : ByteStream) (text more : List ℕ) → Writes text old now → Writes more now new → Writes (text ++ more) old new
writes_more old now new text more a b = record {
  told = b.told ∙ ap (λ (o : Option (List ℕ)). append_known o more) a.told ∙ append_known-append old.told text more;
  faults = b.faults ∙ a.faults;
}

pub cuts_off_more : (old now new : ByteStream) (text more : List ℕ) → Writes text old now → CutOff more now new → CutOff (text ++ more) old new
cuts_off_more old now new text more a b = record {
  written = text ++ b.written;
  rest = b.rest;
  text_is = ap (λ (r : List ℕ). text ++ r) b.text_is ∙ sym (append_assoc text b.written b.rest);
  told = b.told ∙ ap (λ (o : Option (List ℕ)). append_known o b.written) a.told ∙ append_known-append old.told text b.written;
  faults = b.faults ∙ ap one_more a.faults;
}
