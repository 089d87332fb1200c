-- Words ask for one call alone.
use Rattle.std.proofs.Common.{Bool, ◌≡◌, ◌∙◌, ℕ, List, Option, Some, sym, ap, refl}
use Rattle.rs_wire.specs.declared.words.Kind.{Kind}
use Rattle.rs_wire.specs.declared.words.Kind.TheVariants as kind
use Rattle.plain_text.specs.Words.{hex_bytes}
use Rattle.clap.specs.Walk.{Text}
use Rattle.clap.specs.Words.{Row, matches_of}
use Rattle.command_line.specs.declared.call_task.CallTask.{CallTask}
use Rattle.command_line.specs.Calls.{AsksCall, IsCallOf, IsContent, call_app, kind_word}

pub some_one : {A : Type 0} (o : Option A) (a b : A) → o ≡ Some a → o ≡ Some b → a ≡ b
some_one o a b p q = let same : Some a ≡ Some b = sym p ∙ q in cc

kind_one : (a b : Kind) → kind_word a ≡ kind_word b → a ≡ b
kind_one kind.Response kind.Response e = refl
kind_one kind.Response kind.Fnf e = cc
kind_one kind.Response kind.Stream e = cc
kind_one kind.Response kind.Channel e = cc
kind_one kind.Fnf kind.Response e = cc
kind_one kind.Fnf kind.Fnf e = refl
kind_one kind.Fnf kind.Stream e = cc
kind_one kind.Fnf kind.Channel e = cc
kind_one kind.Stream kind.Response e = cc
kind_one kind.Stream kind.Fnf e = cc
kind_one kind.Stream kind.Stream e = refl
kind_one kind.Stream kind.Channel e = cc
kind_one kind.Channel kind.Response e = cc
kind_one kind.Channel kind.Fnf e = cc
kind_one kind.Channel kind.Stream e = cc
kind_one kind.Channel kind.Channel e = refl

content_one : (o : Option (List ℕ)) (a b : List ℕ) → ((word : List ℕ) × (o ≡ Some word) × IsContent word a) → ((word : List ℕ) × (o ≡ Some word) × IsContent word b) → a ≡ b
content_one o a b (v, at, p) (w, there, q) = p.is ∙ (ap (hex_bytes 46) (some_one o v w at there) ∙ sym q.is)

-- a call, field by field
abbrev made : List ℕ → Kind → List ℕ → List ℕ → ℕ → Option (List ℕ) → Bool → ℕ → ℕ → Bool → CallTask
made address kind route content count token lease lulls tries ws = record { address = address; kind = kind; route = route; content = content; count = count; token = token; lease = lease; lulls = lulls; tries = tries; ws = ws }

pub one_read : (rows : List Row) (a b : CallTask) → IsCallOf rows a → IsCallOf rows b → a ≡ b
one_read rows a b p q =
    let address = some_one _ a.address b.address p.address q.address in
    let kind_is = kind_one a.kind b.kind (some_one _ (kind_word a.kind) (kind_word b.kind) p.kind q.kind) in
    let route = some_one _ a.route b.route p.route q.route in
    let content = content_one _ a.content b.content p.content q.content in
    let count = some_one _ a.count b.count p.count q.count in
    let token : a.token ≡ b.token = sym p.token ∙ q.token in
    let lease : a.lease ≡ b.lease = p.lease ∙ sym q.lease in
    let lulls = some_one _ a.lulls b.lulls p.lulls q.lulls in
    let tries = some_one _ a.tries b.tries p.tries q.tries in
    let ws : a.ws ≡ b.ws = p.ws ∙ sym q.ws in
    let same : made a.address a.kind a.route a.content a.count a.token a.lease a.lulls a.tries a.ws ≡ made b.address b.kind b.route b.content b.count b.token b.lease b.lulls b.tries b.ws =
    rw (address, kind_is, route, content, count, token, lease, lulls, tries, ws) refl in
    same

pub one_call : (words : List Text) (a b : CallTask) → AsksCall words a → AsksCall words b → a ≡ b
one_call words a b p q = one_read (matches_of call_app words) a b p.read q.read
