-- Marks: a number for each rewriting that new packets get, under which a chain of mangle sets it.
use Rattle.std.specs.Prelude.{◌≡◌, ◌≢◌, ℕ, suc, ◌+◌, ◌≤◌, ◌<◌, ◌^◌, Bool, true, false, ◌&&◌, ◌||◌, nat_eq, nat_lt, is_some, if◌then◌else◌, Option, Some, None, List, [], ◌∷◌, ◌++◌, codes, map, All, slice_get, position}
use Rattle.std.specs.Fmt.{decimal}
use Rattle.std.specs.Option.{option_map_or, option_eq}
use Rattle.fws_num.specs.declared.prefix.Prefix.{Prefix}
use Rattle.fws_iv.specs.Prefixes.{IsBlock, some_prefix_has}
use Rattle.fws_box.specs.Sides.{IsWithin}
use Rattle.fws_box.specs.declared.field.Field.TheVariants as fields
use Rattle.fws_net.specs.declared.outcome.End.{End}
use Rattle.fws_net.specs.declared.outcome.Rewrite.{Rewrite}
use Rattle.fws_net.specs.declared.outcome.Outcome.{Outcome}
use Rattle.fws_net.specs.declared.outcome.Outcome.TheVariants.{Drop, Accept}
use Rattle.fws_tree.specs.Plain.{Plain, value}
use Rattle.fws_ipt.specs.declared.config.IptChain.{IptChain}
use Rattle.fws_ipt.specs.declared.config.IptTable.TheVariants.{Mangle}
use Rattle.fws_ipt_put_chains.specs.declared.verdict.Verdict.{Verdict}
use Rattle.fws_ipt_put_chains.specs.declared.verdict.Verdict.TheVariants as verdicts
use Rattle.fws_ipt_put_chains.specs.Branches.{mark_rules}
use Rattle.fws_ipt_put.specs.declared.marks.Mark.{Mark}
use Rattle.fws_box.specs.Fields.{value_of}

-- Rewritings

-- an end is written
abbrev pub writes : Rewrite → Bool
writes w = is_some w.src || is_some w.dst

-- the ends have the same plain parts
abbrev pub same_end : End → End → Bool
same_end x y = nat_eq x.addr y.addr && (nat_eq x.len y.len && option_eq nat_eq x.port y.port)

abbrev pub same_rewrite : Rewrite → Rewrite → Bool
same_rewrite v w = option_eq same_end v.src w.src && option_eq same_end v.dst w.dst

-- the mark of the rewriting at a place: the number of the chain that sets it, which stands behind the five built-in ones
abbrev pub mark_at : ℕ → ℕ
mark_at i = i + 5

-- the mark of a rewriting among those that have one; what has none is dropped
abbrev pub marked : List Rewrite → Rewrite → Verdict
marked rewrites w = option_map_or (λ i. verdicts.Mark (mark_at i)) (position (same_rewrite w) rewrites) verdicts.Drop

-- what is decided on a new packet
abbrev pub verdict_of : List Rewrite → Outcome → Verdict
verdict_of rewrites Drop = verdicts.Drop
verdict_of rewrites (Accept w) = if writes w then marked rewrites w else verdicts.Accept

-- what is decided where a packet passes or doesn't
abbrev pub passing : Bool → Verdict
passing true = verdicts.Accept
passing false = verdicts.Drop

-- Which rewritings have a mark

-- each rewriting that the tree gives at a point and that writes an end is among these
abbrev pub HasRewrites : List ℕ → Plain Outcome → List Rewrite → Type 0
HasRewrites tops t rewrites =
    (p : List ℕ) (w : Rewrite) → IsWithin tops p → value t p ≡ Some (Accept w) → writes w ≡ true → (i : ℕ) × (slice_get rewrites i ≡ Some w)

-- What is known of a mark

abbrev pub FitsPort : Option ℕ → Type 0
FitsPort None = Unit {0}
FitsPort (Some port) = port ≤ 65535

-- an end's numbers have room in an address and a port
abbrev pub FitsEnd : Option End → Type 0
FitsEnd None = Unit {0}
FitsEnd (Some e) = (e.addr < 2 ^ 32) × FitsPort e.port

-- blocks of addresses under a network that is written over them
abbrev pub AreBlocks : Option End → List Prefix → Type 0
AreBlocks end blocks = (e : End) → end ≡ Some e → All (λ block. IsBlock block × (e.len ≤ block.len)) blocks

-- an end of less than a whole address
abbrev pub is_network : Option End → Bool
is_network end = option_map_or (λ e. nat_lt e.len 32) end false

-- the mark tells of each point at which its rewriting is given where its packets come from, and what they are
pub record IsMarkOf (tops : List ℕ) (t : Plain Outcome) (mark : Mark) : Type 0 where
  pub tcp : (p : List ℕ) → IsWithin tops p → value t p ≡ Some (Accept mark.rewrite) → value_of p fields.Proto ≡ 6 → mark.tcp ≡ true
  pub udp : (p : List ℕ) → IsWithin tops p → value t p ≡ Some (Accept mark.rewrite) → value_of p fields.Proto ≡ 17 → mark.udp ≡ true
  pub arrives : (p : List ℕ) → IsWithin tops p → value t p ≡ Some (Accept mark.rewrite) → value_of p fields.Entry ≢ 0 → mark.arrives ≡ true
  pub sends : (p : List ℕ) → IsWithin tops p → value t p ≡ Some (Accept mark.rewrite) → value_of p fields.Entry ≡ 0 → mark.sends ≡ true
  pub dst : (p : List ℕ) → IsWithin tops p → value t p ≡ Some (Accept mark.rewrite) → is_network mark.rewrite.dst ≡ true
      → some_prefix_has mark.dst_blocks (value_of p fields.Dst) ≡ true
  pub src : (p : List ℕ) → IsWithin tops p → value t p ≡ Some (Accept mark.rewrite) → is_network mark.rewrite.src ≡ true
      → some_prefix_has mark.src_blocks (value_of p fields.Src) ≡ true
  pub dst_blocks : AreBlocks mark.rewrite.dst mark.dst_blocks
  pub src_blocks : AreBlocks mark.rewrite.src mark.src_blocks
  pub dst_sound : All IsBlock mark.dst_blocks
  pub src_sound : All IsBlock mark.src_blocks
  pub dst_fits : FitsEnd mark.rewrite.dst
  pub src_fits : FitsEnd mark.rewrite.src

-- Chains of marks

abbrev pub mark_name : ℕ → List ℕ
mark_name v = codes "mark-" ++ decimal v

-- the chain that sets a mark
abbrev pub mark_chain : ℕ → IptChain
mark_chain v = record { table = Mangle; name = mark_name v; policy = None; rules = mark_rules v }

-- the chains of n marks, from v on
abbrev pub mark_chains : ℕ → List Mark → List IptChain
mark_chains v [] = []
mark_chains v (x ∷ xs) = mark_chain v ∷ mark_chains (suc v) xs

-- the mark's blocks are such
abbrev pub HaveBlocks : Mark → Type 0
HaveBlocks mark = All IsBlock mark.dst_blocks × All IsBlock mark.src_blocks

-- the marks of a tree's rewritings
pub record AreMarks (tops : List ℕ) (t : Plain Outcome) (rewrites : List Rewrite) (marks : List Mark) : Type 0 where
  pub has : HasRewrites tops t rewrites
  pub marked : map (λ (mark : Mark). mark.rewrite) marks ≡ rewrites
  pub known : All (IsMarkOf tops t) marks
