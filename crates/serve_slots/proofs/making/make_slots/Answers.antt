use Rattle.std.proofs.Common.{rules, ◌≡◌, ◌+◌, ◌∙◌, ◌++◌, ◌∷◌, [], List, length, refl, sym, ap, subst, arith, length-append}
use Rattle.conn_shared.specs.Members.{Knowledge, SharedId, first_member}
use Rattle.serve_slots.specs.Callers.{AreFirst, HaveSettings}
use Rattle.serve_slots.proofs.Lists.{pair_snoc, settings_snoc}
use Rattle.serve_slots.proofs.Unused.{on_err, unused_none, unused_one}
use Rattle.serve_slots.proofs.making.make_slots.Goals as goal

pub returns-in_err-tape-clause-unused : goal.returns-in_err-tape-clause-unused
returns-in_err-tape-clause-unused g c =
    on_err c.from_residual-in_err-tape.result (unused_none (g.H.Shelf.back c.args.shelf.now) (g.H.Shelf.back c.lend.new.self) (c.in_err-tape.ensures.back ∙ c.loop.invariant.back))

pub returns-in-Err-clause-unused : goal.returns-in-Err-clause-unused
returns-in-Err-clause-unused g c =
    unused_one (g.H.Shelf.back c.args.shelf.now) (g.H.Shelf.back c.lend.new.self) (g.H.Shelf.back c.put_back.new.self) _ _ (g.met.H.Tape.Tape.counted c.in-Err.tape) c.in-Err.ensures.empty (c.in_ok-tape.ensures.back ∙ c.loop.invariant.back) c.put_back.ensures.back

pub loop-preserved : goal.loop-preserved
loop-preserved g c =
    let i = c.loop.invariant in
    let a = c.in_default.ensures.added in
    let cs = c.loop.connections.items in
    let ms = c.loop.mains.items in
    let R : SharedId → Knowledge → Type 0 = λ (id : SharedId) (k : Knowledge). k ≡ first_member id in
    let first : AreFirst (cs ++ a.0 ∷ []) (ms ++ first_member a.0 ∷ []) = pair_snoc R cs ms a.0 (first_member a.0) i.first refl in
    let one : length c.add_slot.new.connections.items ≡ length cs + 1 = ap length a.2 ∙ length-append cs (a.0 ∷ []) in
    let two : length c.add_slot.new.mains.items ≡ length ms + 1 = ap length a.3 ∙ length-append ms (first_member a.0 ∷ []) in
    let v = c.add_slot.new.connections.ok.0 in
    let w = c.add_slot.new.mains.ok.0 in
    let x = c.loop.mains.ok.0 in
    record {
      settings = subst (HaveSettings c.args.settings.now) (sym a.2) (settings_snoc c.args.settings.now cs a.0 i.settings a.1);
      first = subst (λ (l : List Knowledge). AreFirst c.add_slot.new.connections.items l) (sym a.3) (subst (λ (l : List SharedId). AreFirst l (ms ++ first_member a.0 ∷ [])) (sym a.2) first);
      each = omega arith;
      connections = omega arith;
      mains = omega arith;
      room = search rules;
      main_room = search rules;
      lent = omega (arith, c.in_ok-tape.ensures.ok);
      back = c.in_ok-tape.ensures.back ∙ i.back;
    }
