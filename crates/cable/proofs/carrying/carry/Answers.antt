use Rattle.std.proofs.Common.{rules, ◌≡◌, ◌≤◌, ◌<◌, ◌+◌, ◌-◌, ◌^◌, ◌∙◌, ◌++◌, ℕ, List, length, min, take, drop, true, false, ap, subst, refl, arith, length-append}
use Rattle.std.proofs.lemmas.Bool.Decides.{nat_tests}
use Rattle.std.proofs.lemmas.List.{length-take, length-drop, take-append-le}
use Rattle.session_model.specs.Life.{is_live, live}
use Rattle.session_model.specs.Frames.{queued}
use Rattle.session_core.specs.Seen.{Seen}
use Rattle.cable.specs.Played.{at_most}
use Rattle.cable.specs.Hearing.{Filled}
use Rattle.cable.proofs.Drawing.{Drew, carried_all, carried_stale, drew_more, lesser_below, none_drew, same_trans}
use Rattle.cable.proofs.carrying.carry.Goals as goal

pub returns-then-live-conn-clause-carried : goal.returns-then-live-conn-clause-carried
returns-then-live-conn-clause-carried g c =
    let known = c.live.ensures in
    let test = c.if-live-conn.true in
    let out : is_live (live c.args.end.now.entries) c.args.conn ≡ false = grind (arith, nat_tests) in
    let len = length-take 1 c.args.buffer.now in
    carried_stale c.args.end.now c.stale.new.end c.args.conn c.args.most c.args.rest.now (length (take 1 c.args.buffer.now)) out (omega (arith, len, c.requires.some)) (omega (arith, len)) (c.in_ok-stale.ensures.stale out)

pub loop-left-init : goal.loop-left-init
loop-left-init g c =
    let end = c.args.end.now in
    let known = c.live.ensures in
    let test = c.if-live-conn.false in
    let some = c.requires.number in
    let here : is_live (live end.entries) c.args.conn ≡ true = grind (arith, nat_tests) in
    let total : c.lesser-total.result ≡ at_most c.args.most (queued end.settings end.entries) = c.lesser-total.ensures ∙ ap (at_most c.args.most) c.queued.ensures in
    let none : 0 ≡ at_most c.args.most (queued end.settings end.entries) - c.lesser-total.result = omega (arith, total) in
    record {
      below = omega (arith, total);
      room = refl;
      end = refl;
      drew = subst (Drew end.settings c.args.conn end.entries end.entries c.args.rest.now c.args.rest.now) none (none_drew end.settings c.args.conn end.entries c.args.rest.now here);
    }

pub loop-left-preserved : goal.loop-left-preserved
loop-left-preserved g c =
    let l = c.loop-left in
    let end = c.args.end.now in
    let total = at_most c.args.most (queued end.settings end.entries) in
    let count = c.min-count.result in
    let is : count ≡ min (length l.buffer) l.left = search rules in
    let len : length (take count l.buffer) ≡ count = omega (arith, is, length-take count l.buffer) in
    let kept : length c.fill.new.buffer ≡ length (take count l.buffer) = search rules in
    let d = l.invariant.drew in
    let most : total ≤ queued end.settings end.entries = lesser_below c.args.most total (queued end.settings end.entries) refl in
    let some : 0 < count = omega (arith, is, c.loop-left-test.true, l.invariant.room, c.requires.some) in
    let few : count < 2 ^ 32 = omega (arith, is, l.invariant.room, c.requires.few) in
    let fits : count ≤ queued end.settings l.end.entries = omega (arith, is, d.less, most, l.invariant.below) in
    let there : length (take count l.buffer) ≤ queued l.end.settings l.end.entries = omega (arith, len, fits, ap (λ (u : Seen). queued u.settings l.end.entries) l.invariant.end) in
    let sum : (total - l.left) + count ≡ total - (l.left - count) = omega (arith, is, l.invariant.below) in
    let fill : Filled c.args.conn l.end c.fill.new.end count c.fill.new.buffer = subst (λ (k : ℕ). Filled c.args.conn l.end c.fill.new.end k c.fill.new.buffer) len (c.in_ok-fill.ensures.filled d.here there) in
    let fed = c.in_ok-feed.ensures.ok ∙ ap (λ (p : List ℕ). record l.rest { bytes = l.rest.bytes ++ p }) (take-append-le count c.fill.new.buffer (drop count l.buffer) (omega (arith, kept, len))) in
    record {
      below = omega (arith, l.invariant.below);
      room = omega (arith, l.invariant.room, kept, len, is, length-append c.fill.new.buffer (drop count l.buffer), length-drop count l.buffer);
      end = same_trans end l.end c.fill.new.end l.invariant.end c.fill.ensures.end;
      drew = subst (Drew end.settings c.args.conn end.entries c.fill.new.end.entries c.args.rest.now c.feed.new.self) sum
          (drew_more end l.end c.fill.new.end c.args.conn c.args.rest.now l.rest c.feed.new.self (total - l.left) count c.fill.new.buffer l.invariant.end d some few fits fill fed);
    }

pub returns-clause-carried : goal.returns-clause-carried
returns-clause-carried g c =
    let l = c.loop-left in
    let end = c.args.end.now in
    let known = c.live.ensures in
    let test = c.if-live-conn.false in
    let some = c.requires.number in
    let here : is_live (live end.entries) c.args.conn ≡ true = grind (arith, nat_tests) in
    let total : c.lesser-total.result ≡ at_most c.args.most (queued end.settings end.entries) = c.lesser-total.ensures ∙ ap (at_most c.args.most) c.queued.ensures in
    let all : at_most c.args.most (queued end.settings end.entries) - l.left ≡ c.lesser-total.result = omega (arith, total, c.loop-left-test.false) in
    carried_all end l.end c.args.conn c.args.most c.args.rest.now l.rest c.lesser-total.result _ here total refl (subst (Drew end.settings c.args.conn end.entries l.end.entries c.args.rest.now l.rest) all l.invariant.drew)
