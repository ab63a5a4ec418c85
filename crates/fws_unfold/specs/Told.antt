-- Which rules instructions stand for, and the parts of the code that tell them.
use Rattle.std.specs.Prelude.{◌≡◌, ℕ, ◌≤◌, ◌<◌, true, slice_get, unwrap_or, Option, None, List, [], ◌∷◌, ◌++◌, length}
use Rattle.fws_net.specs.declared.packet.Packet.{Packet}
use Rattle.fws_net.specs.declared.connection.Kind.{Kind}
use Rattle.fws_net.specs.declared.site.Site.{Site}
use Rattle.fws_net.specs.declared.transit.Transit.{Transit}
use Rattle.fws_ifcl.specs.declared.diagram.Chain.{Chain}
use Rattle.fws_ifcl.specs.declared.diagram.Stage.{Stage}
use Rattle.fws_ifcl.specs.declared.diagram.Ifcl.{Ifcl}
use Rattle.fws_ifcl.specs.declared.diagram.Place.{Place}
use Rattle.fws_ifcl.specs.Refusals.{is_staged}
use Rattle.std.specs.List.{list_any}
use Rattle.fws_ifcl.specs.Uses.{chain_used, is_place}
use Rattle.fws_flat.specs.declared.code.Ins.{Ins}
use Rattle.fws_flat.specs.Uses.{code_used}
use Rattle.fws_flat.specs.Walk.{part_code}
use Rattle.fws_unfold.specs.declared.placing.Span.{Span}
use Rattle.fws_unfold.specs.Used.{stands_for}
use Rattle.fws_unfold.specs.Blocks.{part_of, span_at}

-- the rule that instruction n stands for, if it does
abbrev pub told_at : List (Option Place) → ℕ → List Place
told_at rules n = stands_for (unwrap_or (slice_get rules n) None)

-- the rules that instructions stand for, in their order
abbrev pub told : List (Option Place) → List ℕ → List Place
told rules [] = []
told rules (n ∷ ns) = told_at rules n ++ told rules ns

-- rules with others behind them
pub record AreMore (rules longer : List (Option Place)) : Type 0 where
  pub more : List (Option Place)
  pub is : longer ≡ rules ++ more

-- in each stage of the chain the instructions of the span that a packet uses stand for the rules that it uses
pub record IsToldBlock (chains : List Chain) (code : List Ins) (rules : List (Option Place)) (c : ℕ) (span : Span) : Type 0 where
  pub listed : span.past ≤ length rules
  pub uses : (site : Site) (p : Packet) (k : Kind) (stage : Stage) (t : Transit)
      → told rules (code_used site p k (part_of span stage) span.first (part_code code (part_of span stage)) 0 t)
      ≡ chain_used chains site p k stage (length chains) [] c t

-- so for each chain of a stage
abbrev pub AreToldBlocks : Ifcl → List Ins → List (Option Place) → List Span → Type 0
AreToldBlocks f code rules spans = (c : ℕ) → c < length spans → is_staged f c ≡ true → IsToldBlock f.chains code rules c (span_at spans c)

-- a rule is among those that instructions stand for exactly where one of the instructions stands for it
abbrev pub ToldEach : Type 0
ToldEach = (rules : List (Option Place)) (at : Place) (ns : List ℕ) → list_any (is_place at) (told rules ns) ≡ list_any (λ n. list_any (is_place at) (told_at rules n)) ns
