-- What is wrong with the first frame of a connection (RSocket 1.0, "Setup").
use Rattle.std.specs.Prelude.{ℕ, ◌≡◌, Bool, false, not, ◌==◌, ◌&&◌, [], ◌∷◌, Option, Some, IsSome, is_some, IsTrue}
use Rattle.rs_wire.specs.Ranges.{first_true}
use Rattle.rs_wire.specs.declared.settings.Settings.{Settings}
use Rattle.rs_wire.specs.declared.fault.SetupFault.{SetupFault}
use Rattle.rs_wire.specs.declared.fault.SetupFault.TheVariants.{NotFirst, BadVersion, NoResume, NoLease, TokenTaken}
use Rattle.rs_frame.specs.declared.frame.Frame.{Frame}
use Rattle.rs_frame.specs.declared.frame.Frame.TheVariants as frames
use Rattle.rs_frame.specs.declared.frame.Setup.{Setup}

-- the first thing that is wrong with a first frame: it is no SETUP; its major version is not 1; it
-- asks for resumption, or for leases, and the settings have none; or its token is taken
abbrev pub setup_fault : Frame → Settings → Bool → Option SetupFault
setup_fault (frames.Setup setup) settings taken = first_true (
    (not (setup.major == 1), BadVersion setup.major setup.minor)
    ∷ (is_some setup.resume && not settings.resume, NoResume)
    ∷ (setup.lease && not settings.lease, NoLease)
    ∷ (taken, TokenTaken)
    ∷ [])
setup_fault _ settings taken = Some NotFirst

-- a SETUP that a server with these settings can keep
pub record Suits (setup : Setup) (settings : Settings) (taken : Bool) : Type 0 where
  pub version : setup.major ≡ 1
  pub resumption : IsSome setup.resume → IsTrue settings.resume
  pub leases : IsTrue setup.lease → IsTrue settings.lease
  pub token_is_free : taken ≡ false

-- the frame is a SETUP that a server with these settings can keep
abbrev pub IsAcceptable : Frame → Settings → Bool → Type 0
IsAcceptable (frames.Setup setup) settings taken = Suits setup settings taken
IsAcceptable _ settings taken = ⊥

-- the code of the ERROR frame that names the fault (RSocket 1.0, "Error Codes")
abbrev pub code_of : SetupFault → ℕ
code_of NotFirst = 0x001
code_of (BadVersion major minor) = 0x001
code_of NoResume = 0x002
code_of NoLease = 0x002
code_of TokenTaken = 0x003
