use Rattle.std.proofs.Common.{◌≡◌, ◌+◌, ◌-◌, ◌≤◌, ◌∙◌, ℕ, List, ap, drop, length, min, refl, take, ◌++◌, arith}
use Rattle.std.proofs.lemmas.List.{length-drop}
use Rattle.byteorder.specs.Endian.{big_bytes}
use Rattle.replay_buffer.specs.Laid.{Begins}
use Rattle.replay_buffer.specs.declared.laid.Prefix.{Prefix}
use Rattle.replay_buffer.proofs.InBytes.{Both, both, lies}
use Rattle.replay_buffer.proofs.Prefixed.{begins-long}
use Rattle.replay_buffer.proofs.blocks.Blocks.copy_framed.Goals as goal

pub prefix_at-size-requires-clause-top : goal.prefix_at-size-requires-clause-top
prefix_at-size-requires-clause-top c =
    omega (arith, begins-long (drop c.args.index c.args.self.now.items) c.requires.some.0 c.requires.some.1, length-drop c.args.index c.args.self.now.items, c.requires.top)

pub overflow_add-index : goal.overflow_add-index
overflow_add-index c =
    let f = c.requires.some.0 in
    let b = c.requires.some.1 in
    omega (arith, (lies c.args.self.now.items f c.args.index c.prefix_at-size.result.size b (ap (λ (x : Prefix). x.size) (c.prefix_at-size.ensures f b))).within, c.requires.top)

pub overflow_add-index-2 : goal.overflow_add-index-2
overflow_add-index-2 c =
    let f = c.requires.some.0 in
    let b = c.requires.some.1 in
    omega (arith, (lies c.args.self.now.items f c.args.index c.prefix_at-size.result.size b (ap (λ (x : Prefix). x.size) (c.prefix_at-size.ensures f b))).within, c.saturating_sub-gone.ensures, c.requires.some.2, c.requires.top)

pub copy_after-requires : goal.copy_after-requires
copy_after-requires c =
    let f = c.requires.some.0 in
    let b = c.requires.some.1 in
    omega (arith, (lies c.args.self.now.items f c.args.index c.prefix_at-size.result.size b (ap (λ (x : Prefix). x.size) (c.prefix_at-size.ensures f b))).within, c.saturating_sub-gone.ensures, c.requires.some.2)

pub returns : goal.returns
returns c =
    let bytes = c.args.self.now.items in
    let old = c.args.buffer.now in
    let size = c.prefix_at-size.result.size in
    let a = c.copy_some-first.result in
    let now = c.copy_some-first.new.buffer in
    let gone = c.saturating_sub-gone.result in
    let length_is : (f : List ℕ) → Begins (drop c.args.index bytes) f → c.prefix_at-size.result.length ≡ length f = λ f b. ap (λ (x : Prefix). x.length) (c.prefix_at-size.ensures f b) in
    let field : (f : List ℕ) → Begins (drop c.args.index bytes) f → c.write_u24.new.buf ≡ big_bytes 3 (length f) = λ f b. c.write_u24.ensures ∙ ap (big_bytes 3) (length_is f b) in
    let within : (f : List ℕ) → Begins (drop c.args.index bytes) f → c.args.skip ≤ 3 + length f = λ f b. omega (arith, c.requires.some.2, length_is f b, length_is c.requires.some.0 c.requires.some.1) in
    let copied : (f : List ℕ) → Begins (drop c.args.index bytes) f → Both (big_bytes 3 (length f)) f old _ c.args.skip a c.copy_after.result = λ f b.
    both (big_bytes 3 (length f)) f bytes old now _ c.copy_after.new.buffer _ (c.args.index + size) c.args.skip gone a c.min-count.result c.copy_after.result (record {
      three = refl;
      within = within f b;
      gone_is = c.saturating_sub-gone.ensures;
      lies_at = lies bytes f c.args.index size b (ap (λ (x : Prefix). x.size) (c.prefix_at-size.ensures f b));
      a_is = c.copy_some-first.ensures.count ∙ ap (λ l. min (length old) (length l - c.args.skip)) (field f b);
      now_is = c.copy_some-first.ensures.written ∙ ap (λ l. take a (drop c.args.skip l) ++ drop a old) (field f b);
      b_is = c.min-count.ensures ∙ ap (λ n. min (n - gone) (length now - a)) (length_is f b);
      part_is = refl;
      r_is = c.copy_after.ensures.count;
      piece_is = c.copy_after.ensures.written;
      new_is = refl;
    }) in
    record { count = λ f b. (copied f b).count; written = λ f b. (copied f b).written }
