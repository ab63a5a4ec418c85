-- What is known of the packets of a class.
use Rattle.std.specs.Prelude.{◌≡◌, ℕ, ◌≤◌, Bool, true, false, Option, Some, None, List, slice_get}
use Rattle.fws_box.specs.Sides.{IsWithin}
use Rattle.fws_net.specs.declared.view.View.{View}
use Rattle.fws_exec.specs.declared.errand.Errand.{Errand}
use Rattle.fws_exec.specs.declared.progress.Progress.{Progress}
use Rattle.fws_exec.specs.declared.sheet.Sheet.{Sheet}
use Rattle.fws_exec.specs.declared.spot.Class.{Class}
use Rattle.fws_exec.specs.Classes.{transit_of}
use Rattle.fws_exec.specs.Courses.{course, Aim, IsOpen}
use Rattle.fws_exec.specs.Divided.{seen_at}
use Rattle.fws_exec.specs.Sheets.{tops_in, class_at}
use Rattle.fws_exec.specs.declared.look.Look.{Look}
use Rattle.fws_exec.specs.declared.look.Span.{Span}
use Rattle.fws_exec.specs.declared.look.Way.{Way}
use Rattle.fws_exec.specs.declared.look.Way.TheVariants.{Unknown, Hidden, To}
use Rattle.fws_exec.specs.declared.truth.Truth.{Truth}
use Rattle.fws_exec.specs.declared.truth.Truth.TheVariants.{Fails, Holds, Open}

-- what is known of whether something holds is so
abbrev pub Tells : Truth → Bool → Type 0
Tells Fails b = b ≡ false
Tells Holds b = b ≡ true
Tells Open b = Unit {0}

-- a number lies in the span
abbrev pub InSpan : Span → ℕ → Type 0
InSpan s v = (s.lo ≤ v) × (v ≤ s.hi)

-- a number lies in the span, if there is one
abbrev pub InAny : Option Span → ℕ → Type 0
InAny None v = Unit {0}
InAny (Some s) v = InSpan s v

-- the interface that is shown is so
abbrev pub OnWay : Way → Option ℕ → Type 0
OnWay Unknown o = Unit {0}
OnWay Hidden o = o ≡ None
OnWay (To entry) o = o ≡ Some entry

-- what a rule sees of a packet is so
pub record Shows (look : Look) (v : View) : Type 0 where
  pub proto : InSpan look.proto v.packet.proto
  pub src : InAny look.src v.packet.src
  pub sport : InAny look.sport v.packet.sport
  pub dst : InAny look.dst v.packet.dst
  pub dport : InAny look.dport v.packet.dport
  pub recv : OnWay look.recv v.recv
  pub xmit : OnWay look.xmit v.xmit
  pub outward : v.outward ≡ look.outward
  pub est : v.est ≡ look.est

-- packets of the look, to which rules did this, go on at a place as at another, where nothing is sought that was reached
abbrev pub GoesOn : Errand → List Bool → Look → Progress → ℕ → ℕ → Type 0
GoesOn e reached look g place to = (a : Aim) (p : List ℕ) → IsOpen reached a → Shows look (seen_at e.ground.site.now e.ground.state e.part g p)
    → course e a p place (transit_of g p) ≡ course e a p to (transit_of g p)

-- the packets of the class with a number go on at a place as at another, where nothing is sought that was reached
abbrev pub ComesTo : Errand → Sheet → ℕ → ℕ → ℕ → Type 0
ComesTo e s number place to = (a : Aim) (c : Class) (p : List ℕ) → IsOpen s.reached.items a → slice_get s.roll.classes.items number ≡ Some c → IsWithin (tops_in s) p → class_at s p ≡ number
    → course e a p place (transit_of c.progress p) ≡ course e a p to (transit_of c.progress p)
