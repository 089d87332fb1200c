-- Nothing is wrong in settings that setting lines changed.
use Rattle.std.proofs.lemmas.Grind.{common_steps}
use Rattle.std.proofs.Common.{◌≡◌, ℕ, ◌<◌, ◌≤◌, ◌+◌, Bool, true, false, if◌then◌else◌, List, [], ◌∷◌, length, drop, get_or, Some, None, refl, sym, ap, subst, ◌∙◌, arith}
use Rattle.std.proofs.lemmas.List.{drop_all}
use Rattle.std.specs.List.{AllByRecursion}
use Rattle.rs_wire.specs.declared.words.Side.{Side}
use Rattle.rs_wire.specs.declared.words.Side.TheVariants.{Client}
use Rattle.rs_wire.specs.declared.settings.Settings.{Settings}
use Rattle.rs_wire.specs.declared.settings.SettingFault.{SettingFault}
use Rattle.rs_wire.specs.Settings.{IsChecked, IsIn, fault_of, usual}
use Rattle.cable_script.specs.Setting.{IsMtu, IsSetting, IsSettingLine, IsToken, is_for, put, set_by, set_by_all, settings_by}
use Rattle.cable_script.specs.declared.setting.Setting.{Setting}
use Rattle.cable_script.specs.declared.setting.SettingLine.{SettingLine}
use Rattle.cable_script.specs.declared.setting.SettingLine.TheVariants as lines
use Rattle.cable_script.specs.declared.TheConstants.{MOST_TOKEN}

-- a client that resumes has a token of 1 to 64 bytes, and no other end has one
abbrev IsTokenFor : Side → Bool → ℕ → Type 0
IsTokenFor Client true size = IsIn 1 size MOST_TOKEN
IsTokenFor _ _ size = size ≡ 0

-- each is in its range
record IsSound (s : Settings) : Type 0 where
  pub token : IsTokenFor s.side s.resume (length s.token)
  pub mtu : IsMtu s.mtu
  pub keepalive : IsIn 1 s.keepalive_ms 2147483647
  pub lifetime : IsIn 1 s.lifetime_ms 2147483647
  pub hold : s.hold ≤ 1073741824
  pub slack : s.slack ≤ 2147483647
  pub max_in : IsIn 64 s.max_in 16777215
  pub max_payload : IsIn 1 s.max_payload 16000000
  pub max_streams : IsIn 1 s.max_streams 65536
  pub last_id : IsIn 1 s.last_id 2147483647
  pub top_position : s.top_position ≤ 9223372036854775807
  pub session_hold : s.session_hold_ms ≤ 4294967295
  pub metadata_mime : length s.metadata_mime ≤ 255
  pub content_mime : length s.content_mime ≤ 255

no_fault : (s : Settings) → IsSound s → fault_of s ≡ None
no_fault s h1 = grind (arith, common_steps)

token_size : (side : Side) (resume : Bool) (size : ℕ) → IsTokenFor side resume size → size ≤ 65535
token_size side resume size h1 = grind (arith, common_steps)

checked : (s : Settings) → IsSound s → IsChecked s
checked s h = record {
  no_fault = no_fault s h;
  keepalive = h.keepalive;
  lifetime = h.lifetime;
  mtu = omega (arith, h.mtu.0);
  hold = h.hold;
  slack = h.slack;
  max_in = h.max_in;
  max_payload = h.max_payload;
  max_streams = h.max_streams;
  last_id = h.last_id;
  top_position = h.top_position;
  session_hold = h.session_hold;
  token = token_size s.side s.resume (length s.token) h.token;
  metadata_mime = h.metadata_mime;
  content_mime = h.content_mime;
}

usual_sound : (side : Side) → IsSound (usual side)
usual_sound side = grind (arith, common_steps)

put_sound : (x : Setting) (s : Settings) → IsSetting x → IsSound s → IsSound (put x s)
put_sound x s h1 h2 = grind (arith, common_steps)

resumed_sound : (side : Side) (token : List ℕ) (s : Settings) → s.side ≡ side → IsToken token → IsSound s → IsSound (set_by side (lines.Resume token) s)
resumed_sound side token s h1 h2 h3 = grind (arith, common_steps)

leased_sound : (side : Side) (both : Bool) (s : Settings) → IsSound s → IsSound (set_by side (lines.Lease both) s)
leased_sound side both s h1 = grind (arith, common_steps)

set_if : (b : Bool) (x : Setting) (s : Settings) → IsSetting x → IsSound s → IsSound (if b then put x s else s)
set_if true x s ok h = put_sound x s ok h
set_if false x s ok h = h

put_side : (b : Bool) (x : Setting) (s : Settings) → (if b then put x s else s).side ≡ s.side
put_side b x s = grind (arith, common_steps)

-- one line

one_sound : (side : Side) (l : SettingLine) (s : Settings) → s.side ≡ side → IsSettingLine l → IsSound s → IsSound (set_by side l s)
one_sound side (lines.Set end x) s same ok h = set_if (is_for end side) x s ok h
one_sound side (lines.Resume token) s same ok h = resumed_sound side token s same ok h
one_sound side (lines.Lease both) s same ok h = leased_sound side both s h

one_side : (side : Side) (l : SettingLine) (s : Settings) → (set_by side l s).side ≡ s.side
one_side side (lines.Set end x) s = put_side (is_for end side) x s
one_side side (lines.Resume token) s = refl
one_side side (lines.Lease both) s = refl

-- all of them

set_all : (side : Side) (lines : List SettingLine) (s : Settings) → s.side ≡ side → AllByRecursion IsSettingLine lines → IsSound s → IsSound (set_by_all side lines s)
unfolding set_by_all
set_all side [] s same ok h = h
set_all side (l ∷ lines) s same ok h = set_all side lines (set_by side l s) (one_side side l s ∙ same) ok.1 (one_sound side l s same ok.0 h)

-- the settings of an end under setting lines are in their ranges
pub settings_checked : (side : Side) (lines : List SettingLine) → AllByRecursion IsSettingLine lines → IsChecked (settings_by side lines)
settings_checked side lines ok = checked (settings_by side lines) (set_all side lines (usual side) refl ok (usual_sound side))

-- ---- their side

all_side : (side : Side) (lines : List SettingLine) (s : Settings) → (set_by_all side lines s).side ≡ s.side
unfolding set_by_all
all_side side [] s = refl
all_side side (l ∷ lines) s = all_side side lines (set_by side l s) ∙ one_side side l s

pub settings_side : (side : Side) (lines : List SettingLine) → (settings_by side lines).side ≡ side
settings_side side lines = all_side side lines (usual side)

-- ---- one line after the other

pub one_set : (side : Side) (lines : List SettingLine) (i : ℕ) (d : SettingLine) (s s' : Settings) → i < length lines → s' ≡ set_by side (get_or lines i d) s → set_by_all side (drop (i + 1) lines) s' ≡ set_by_all side (drop i lines) s
unfolding set_by_all
one_set side lines i d s s' h1 h2 = grind (arith, common_steps)

none_left : (side : Side) (lines : List SettingLine) (s : Settings) → lines ≡ [] → set_by_all side lines s ≡ s
unfolding set_by_all
none_left side lines s none = subst (λ (ls : List SettingLine). set_by_all side ls s ≡ s) (sym none) refl

-- at the end of the lines the settings are those that they make
pub all_set : (side : Side) (lines given : List SettingLine) (i : ℕ) (s : Settings) → length given ≤ i → given ≡ lines → set_by_all side (drop i given) s ≡ settings_by side given → s ≡ settings_by side lines
all_set side lines given i s past same left =
    sym (none_left side (drop i given) s (drop_all i given past)) ∙ (left ∙ ap (λ (ls : List SettingLine). settings_by side ls) same)

-- so nothing is wrong in them
pub checked_as : (side : Side) (lines : List SettingLine) (s : Settings) → AllByRecursion IsSettingLine lines → s ≡ settings_by side lines → IsChecked s
checked_as side lines s ok is = subst (λ (g : Settings). IsChecked g) (sym is) (settings_checked side lines ok)

pub not_wrong : (s : Settings) (fault : SettingFault) → IsChecked s → fault_of s ≡ Some fault → ⊥
not_wrong s fault h wrong = let none = h.no_fault in cc
