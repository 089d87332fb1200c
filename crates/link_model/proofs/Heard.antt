-- All that was taken has come.
use Rattle.std.proofs.Common.{◌≡◌, ◌∙◌, inl, inr, ℕ, List, Option, Some, None, is_some, true≢false, refl, sym, ap, subst}
use Rattle.rs_wire.specs.declared.settings.Settings.{Settings}
use Rattle.outside.specs.Links.{Shown}
use Rattle.tape.specs.declared.entry.Entry.{Entry}
use Rattle.session_model.specs.Frames.{came, first_bad}
use Rattle.link_model.specs.Reading.{HasRead}
use Rattle.link_model.specs.Carrying.{Between, Keeps}
use Rattle.link_model.specs.Leaving.{ComesInTime, Heard, IsReadOut}
use Rattle.link_model.proofs.Bytes.{if_some}
use Rattle.link_model.proofs.Kept.{rest_of}

-- by what is kept between the link and the connection, and why the rest does not come
pub keeps_heard : (g : Settings) (past : List Entry) (link : Shown) (b : Between) → Keeps g past link b → ComesInTime g past b.conn → IsReadOut g past b.conn b.rest → Heard g past link b.conn
keeps_heard g past link b k in_time out = record {
  in_time = in_time;
  read = if_some link.taken (λ bytes h. (b.rest, h, read_out bytes (first_bad past b.conn) refl h)) k.taken;
}
  where
    read_out : (bytes : List ℕ) (o : Option ℕ) → first_bad past b.conn ≡ o → (h : HasRead (came past b.conn) (first_bad past b.conn) g.max_in b.rest bytes) → IsReadOut g past b.conn h.more
    read_out bytes None is h = subst (IsReadOut g past b.conn) (sym (rest_of b.conn g.max_in (came past b.conn) (first_bad past b.conn) b.rest bytes is h)) out
    read_out bytes (Some rule) is h = inr (inl (λ none. true≢false (ap is_some (sym is ∙ none))))
