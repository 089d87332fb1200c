-- The tape of a slot, from what is known of it once all its callers are taken in.
use Rattle.std.specs.List.{AllByRecursion}
use Rattle.std.proofs.Common.{◌≡◌, ◌<◌, ◌∙◌, ℕ, true, false, true≢false, List, ◌++◌, Option, sym, subst}
use Rattle.rs_wire.specs.declared.call.Call.{Call}
use Rattle.rs_wire.specs.declared.settings.Settings.{Settings}
use Rattle.tape.specs.declared.entry.Entry.{Entry}
use Rattle.conn_lock.specs.Callers.{times}
use Rattle.link_laws.specs.Staying.{asks_close}
use Rattle.serve_model.specs.Names.{AreNamed, Under}
use Rattle.serve_model.specs.Order.{HasNoClose, IsHandledByOwner, IsOwn, IsQuiet, OpensFirst, is_opening}
use Rattle.serve_model.proofs.Names.{all_earlier, all_split, goes_as, under_all, under_as, under_earlier, under_joined, under_on}
use Rattle.serve_model.proofs.Order.{no_close_first, opens_first}
use Rattle.serve_model.proofs.Owners.{own_grows, own_of_handled}
use Rattle.serve_laws.specs.Knowing.{IsEndingEvent, IsWorkersEvent, KnowsSlot}
use Rattle.serve_laws.specs.Tapes.{IsOfLink, IsServersEvent, IsServersTape}
use Rattle.serve_laws.proofs.Events.{ending_event, ending_quiet, quiet_moves, quiet_opens, workers_event, workers_handle, workers_open, workers_quiet}

module _ (g : Settings) (moments : Option (List ℕ)) (lease : Option Call) (rows : List (List ℕ)) (i : ℕ) (names workers : List ℕ) (mid past : List Entry) (slot : KnowsSlot g moments lease rows i names workers mid past) where
  -- what holds of the links' callers until `mid`, of what they add after it, and of workers' calls, holds of all
  everywhere : (P : Entry → Type 0) → Under names P mid → ((x : Entry) → IsEndingEvent x.event → P x) → ((x : Entry) → IsWorkersEvent x.event → P x) → AllByRecursion P past
  everywhere P own ends works = under_all (names ++ workers) P past slot.named (under_joined names workers P past
      (under_on names P mid past (goes_as names (λ x. IsEndingEvent x.event) P mid past ends slot.ends) own)
      (under_as workers (λ x. IsWorkersEvent x.event) P works past slot.works))

  named_mid : AreNamed (names ++ workers) mid
  named_mid = all_earlier (λ (x : Entry). 0 < times x.who (names ++ workers)) mid slot.ends.more past slot.ends.on slot.named

  -- the same until `mid` alone
  pub until_mid : (P : Entry → Type 0) → Under names P mid → ((x : Entry) → IsWorkersEvent x.event → P x) → AllByRecursion P mid
  until_mid P own works = under_all (names ++ workers) P mid named_mid (under_joined names workers P mid own
      (under_as workers (λ x. IsWorkersEvent x.event) P works mid (under_earlier workers (λ x. IsWorkersEvent x.event) mid slot.ends.more past slot.ends.on slot.works)))

  -- and after it
  after_mid : (P : Entry → Type 0) → ((x : Entry) → IsEndingEvent x.event → P x) → ((x : Entry) → IsWorkersEvent x.event → P x) → AllByRecursion P slot.ends.more
  after_mid P ends works =
      let more = slot.ends.more in
      let named = (all_split (λ (x : Entry). 0 < times x.who (names ++ workers)) more mid (subst (AreNamed (names ++ workers)) slot.ends.on slot.named)).0 in
      let work = (all_split (λ (x : Entry). 0 < times x.who workers → IsWorkersEvent x.event) more mid (subst (Under workers (λ x. IsWorkersEvent x.event)) slot.ends.on slot.works)).0 in
      under_all (names ++ workers) P more named (under_joined names workers P more (under_as names (λ x. IsEndingEvent x.event) P ends more slot.ends.own) (under_as workers (λ x. IsWorkersEvent x.event) P works more work))

  pub no_close_until : HasNoClose mid
  no_close_until = until_mid (λ x. asks_close x.event ≡ false) slot.own.no_close (λ x works. workers_open x.event works)

  pub handled_until : AllByRecursion (IsHandledByOwner past) mid
  handled_until = until_mid (IsHandledByOwner past) (own_grows names mid slot.ends.more past mid slot.ends.on slot.own.handled) (λ x works c is. absurd (workers_handle c x.event works is))

  quiet_own : (x : Entry) → IsQuiet x.event → IsOwn past x
  quiet_own x quiet c is = absurd (quiet_moves c x.event quiet is)

  pub own_all : AllByRecursion (IsOwn past) past
  own_all = everywhere (IsOwn past)
      (under_as names (IsHandledByOwner past) (IsOwn past) (own_of_handled past) mid (own_grows names mid slot.ends.more past mid slot.ends.on slot.own.handled))
      (λ x ends. quiet_own x (ending_quiet x.event ends)) (λ x works. quiet_own x (workers_quiet x.event works))

  order : OpensFirst past
  order = subst OpensFirst (sym slot.ends.on) (opens_first slot.ends.more mid
      (after_mid (λ x. is_opening x.event ≡ false) (λ x ends. quiet_opens x.event (ending_quiet x.event ends)) (λ x works. quiet_opens x.event (workers_quiet x.event works)))
      (no_close_first mid no_close_until))

  quiet_none : (x : Entry) → IsQuiet x.event → is_opening x.event ≡ true → IsOfLink rows i x.who
  quiet_none x quiet is = absurd (true≢false (sym is ∙ quiet_opens x.event quiet))

  pub tape_is : IsServersTape g moments lease rows i past
  tape_is = record {
    legal = slot.legal;
    fair = slot.fair;
    kinds = everywhere (λ x. IsServersEvent moments lease x.event) slot.own.kinds (λ x ends. ending_event moments lease x.event ends) (λ x works. workers_event moments lease x.event works);
    own = own_all;
    order = order;
    opened = everywhere (λ x. is_opening x.event ≡ true → IsOfLink rows i x.who) slot.own.opened
        (λ x ends. quiet_none x (ending_quiet x.event ends)) (λ x works. quiet_none x (workers_quiet x.event works));
    apart = slot.apart;
  }
