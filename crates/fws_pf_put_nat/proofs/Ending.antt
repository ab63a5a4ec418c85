-- Whole lists.
use Rattle.std.proofs.Common.{◌≡◌, ℕ, ◌≤◌, Bool, Some, length, refl, arith}
use Rattle.std.proofs.lemmas.Option.{none-some}
use Rattle.fws_iv.specs.declared.iv.Iv.{Iv}
use Rattle.fws_net.specs.declared.site.Site.{Site}
use Rattle.fws_net.specs.Points.{tops_of}
use Rattle.fws_tree.specs.Shared.{IsShared}
use Rattle.fws_tree_seen.specs.declared.seen.Seen.TheVariants.{Entered}
use Rattle.fws_tree_seen.specs.Shown.{IsTold}
use Rattle.fws_pf_put_nat.specs.declared.side.Side.{Side}
use Rattle.fws_pf_put_nat.specs.declared.side.Side.TheVariants.{Entry, Proto, Dst, Dport, Src, Sport}
use Rattle.fws_pf_put_nat.specs.Scenes.{IsPlanned, Scene}
use Rattle.fws_pf_put_nat.specs.Turns.{IsPathTo}
use Rattle.fws_pf_put_nat.specs.Ends.{AreEnds}
use Rattle.fws_pf_put_nat.specs.Paths.{no_parts, part_of, IsGoodPath}
use Rattle.fws_pf_put_nat.specs.Starts.{IsStart}
use Rattle.fws_pf_put_nat.specs.Translations.{KeepsPortsOutward, WritesOneEnd, WritesPortsOfProtocols}
use Rattle.fws_pf_put_nat.proofs.Laws.{NodeLaws}
use Rattle.fws_pf_put_nat.proofs.Starting.{begun_at}

pub plan_made : (laws : NodeLaws) (s : Scene) → s.tops ≡ tops_of s.site → IsShared s.tops s.tree s.leaves s.nodes → IsTold Entered s.tops s.tree → length s.states ≡ length s.nodes
    → WritesPortsOfProtocols s.tops s.tree → WritesOneEnd s.outward s.tops s.tree → KeepsPortsOutward s.outward s.tops s.tree → AreEnds s.outward s.leaves s.nodes s.ends
    → IsStart s.nodes s.outward s.start → IsPlanned s
plan_made laws s tops shared told size ports one bare ends start =
    let begun = begun_at laws s shared start in record {
      tops_are = tops;
      shared = shared;
      told = told;
      size = size;
      ports = ports;
      one = one;
      bare = bare;
      ends = ends;
      begins = begun.begins;
      inward = begun.inward;
      host = begun.host;
      keeps = begun.keeps;
    }

pub no_parts_good : (site : Site) (outward : Bool) (from : ℕ) → IsGoodPath site outward from no_parts
no_parts_good site outward from = record {
  printed = elim [ Entry ↦ refl | Proto ↦ refl | Dst ↦ refl | Dport ↦ refl | Src ↦ refl | Sport ↦ refl ];
  free = elim [ Entry ↦ λ le. refl | Proto ↦ λ le. refl | Dst ↦ λ le. refl | Dport ↦ λ le. refl | Src ↦ λ le. refl | Sport ↦ λ le. refl ];
  entry = λ out. refl;
}

pub whole_path_good : (s : Scene) → IsPathTo s s.start no_parts
whole_path_good s = (0, no_parts_good s.site s.outward 0, λ f kids e. low f)
  where
    low : (f : ℕ) → 0 ≤ f
    low f = omega arith

pub no_parts_ordered : (side : Side) (part : Iv) → part_of side no_parts ≡ Some part → part.lo ≤ part.hi
no_parts_ordered Entry part e = absurd (none-some part e)
no_parts_ordered Proto part e = absurd (none-some part e)
no_parts_ordered Dst part e = absurd (none-some part e)
no_parts_ordered Dport part e = absurd (none-some part e)
no_parts_ordered Src part e = absurd (none-some part e)
no_parts_ordered Sport part e = absurd (none-some part e)
