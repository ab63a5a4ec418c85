-- Drafts as instructions at places of the whole code, and the parts of stages.
use Rattle.std.specs.Prelude.{◌≡◌, ℕ, ◌-◌, ◌<◌, true, slice_get, unwrap_or, List, [], ◌++◌, map, length}
use Rattle.fws_net.specs.declared.packet.Packet.{Packet}
use Rattle.fws_net.specs.declared.connection.Kind.{Kind}
use Rattle.fws_net.specs.declared.site.Site.{Site}
use Rattle.fws_net.specs.declared.transit.Transit.{Transit}
use Rattle.fws_ifcl.specs.declared.diagram.Chain.{Chain}
use Rattle.fws_ifcl.specs.declared.diagram.Stage.{Stage}
use Rattle.fws_ifcl.specs.declared.diagram.Ifcl.{Ifcl}
use Rattle.fws_ifcl.specs.Refusals.{is_staged}
use Rattle.fws_ifcl.specs.Walk.{chain_walk, stage_end}
use Rattle.fws_flat.specs.declared.code.FlatAct.{FlatAct}
use Rattle.fws_flat.specs.declared.code.FlatAct.TheVariants.{Jump}
use Rattle.fws_flat.specs.declared.code.Ins.{Ins}
use Rattle.fws_flat.specs.declared.code.Part.{Part}
use Rattle.fws_flat.specs.Soundness.{part_ok}
use Rattle.fws_flat.specs.Walk.{code_walk, part_code}
use Rattle.fws_unfold.specs.declared.draft.Draft.{Draft}
use Rattle.fws_unfold.specs.declared.draft.DraftAct.{DraftAct}
use Rattle.fws_unfold.specs.declared.draft.DraftAct.TheVariants.{Do, Go}
use Rattle.fws_unfold.specs.declared.placing.Span.{Span}

-- a draft's act in code that ends at the place past
abbrev pub placed_act : ℕ → DraftAct → FlatAct
placed_act past (Do act) = act
placed_act past (Go to) = Jump (past - to)

abbrev pub placed : ℕ → Draft → Ins
placed past draft = record { cond = draft.cond; act = placed_act past draft.act }

-- the part of a stage whose chain's code has this span
abbrev pub part_of : Span → Stage → Part
part_of span stage = record {
  first = span.first;
  past = span.past;
  shows_recv = stage.shows_recv;
  shows_xmit = stage.shows_xmit;
  outward = stage.outward;
  end = stage.end;
}

-- the span of a chain's code; none of the code past the end
abbrev pub span_at : List Span → ℕ → Span
span_at spans c = unwrap_or (slice_get spans c) (record { first = 0; past = 0 })

-- the parts of stages, by the spans of the chains
abbrev pub parts_of : List Span → List Stage → List Part
parts_of spans stages = map (λ stage. part_of (span_at spans stage.chain) stage) stages

-- code with other code behind it
pub record IsLonger (code longer : List Ins) : Type 0 where
  pub more : List Ins
  pub is : longer ≡ code ++ more

-- in each stage of the chain the code of the span does what the chain does
pub record IsBlock (chains : List Chain) (code : List Ins) (c : ℕ) (span : Span) : Type 0 where
  pub right : (stage : Stage) → part_ok code (part_of span stage) ≡ true
  pub walks : (site : Site) (p : Packet) (k : Kind) (stage : Stage) (t : Transit)
      → code_walk site p k (part_of span stage) span.first (part_code code (part_of span stage)) 0 t
      ≡ stage_end (chain_walk chains site p k stage (length chains) [] c t)

-- each chain of a stage has its code
abbrev pub AreBlocks : Ifcl → List Ins → List Span → Type 0
AreBlocks f code spans = (c : ℕ) → c < length spans → is_staged f c ≡ true → IsBlock f.chains code c (span_at spans c)
