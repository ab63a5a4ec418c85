-- The translations that write sources as packets go out, by the tags of the states to which they have come.
use Rattle.std.specs.Prelude.{◌≡◌, ℕ, ◌+◌, ◌-◌, ◌^◌, ◌<◌, Bool, true, false, ◌&&◌, nat_eq, nat_lt, Option, Some, None, List, [], ◌∷◌, position, slice_get}
use Rattle.std.specs.List.{list_all, list_any}
use Rattle.std.specs.Option.{option_eq}
use Rattle.fws_num.specs.declared.prefix.Prefix.{Prefix}
use Rattle.fws_iv.specs.declared.iv.Iv.{Iv}
use Rattle.fws_iv.specs.Ivs.{has}
use Rattle.fws_net.specs.declared.condition.Lit.{Lit}
use Rattle.fws_net.specs.declared.condition.Test.{Test}
use Rattle.fws_net.specs.declared.condition.Test.TheVariants.{Src, Tag}
use Rattle.fws_net.specs.declared.outcome.End.{End}
use Rattle.fws_net.specs.declared.outcome.Rewrite.{Rewrite}
use Rattle.fws_net.specs.declared.site.Site.{Site}
use Rattle.fws_net.specs.declared.transit.Transit.{Transit}
use Rattle.fws_pf.specs.declared.config.PfNat.{PfNat}
use Rattle.fws_pf.specs.Walk.{chosen}
use Rattle.fws_pf_print.specs.Printable.{is_printed_translation}

-- Sources that are written over some addresses

-- the ends have the same plain parts
abbrev pub same_end : End → End → Bool
same_end x y = nat_eq x.addr y.addr && (nat_eq x.len y.len && option_eq nat_eq x.port y.port)

-- the end is one of these, and the address is one of those over which it is written
pub record IsWrittenOver (ends : List End) (sets : List (List Iv)) (e : End) (addr : ℕ) : Type 0 where
  pub place : ℕ
  pub set : List Iv
  pub found : position (same_end e) ends ≡ Some place
  pub there : slice_get sets place ≡ Some set
  pub among : has set addr ≡ true

-- where a source is written, it has no port; and where less than a whole address is, it is written over this one
abbrev pub IsWritable : List End → List (List Iv) → Option End → ℕ → Type 0
IsWritable ends sets None addr = Unit {0}
IsWritable ends sets (Some e) addr = (e.port ≡ None) × (nat_lt e.len 32 ≡ true → IsWrittenOver ends sets e addr)

-- Translations

-- a literal that isn't negated
abbrev pub asked : Test → Lit
asked test = record { not = false; test = test }

-- the addresses of a prefix without bits past its length
abbrev pub addresses : Prefix → List Iv
addresses net = record { lo = net.addr; hi = net.addr + (2 ^ (32 - net.len) - 1) } ∷ []

-- packets with the tag get the end over their source, if one is written
abbrev pub whole_rule : ℕ → Option End → PfNat
whole_rule k to = record { cond = asked (Tag k) ∷ []; to = to; past = false; tag = None }

-- packets with the tag that have a source of the block get the network over it
abbrev pub block_rule : ℕ → End → Prefix → PfNat
block_rule k e block = record { cond = asked (Src (addresses block)) ∷ asked (Tag k) ∷ []; to = Some e; past = false; tag = None }

-- the translation is one that writes this source, puts no tag and lets the packet go on
pub record WritesSource (src : Option End) (found : Option PfNat) : Type 0 where
  pub nat : PfNat
  pub is : found ≡ Some nat
  pub past : nat.past ≡ false
  pub tag : nat.tag ≡ None
  pub to : nat.to ≡ src

-- translations that write the source of packets with the tag, and nothing of others
pub record IsSourceBlock (ends : List End) (sets : List (List Iv)) (k : ℕ) (src : Option End) (block : List PfNat) : Type 0 where
  pub printed : (site : Site) → list_all (is_printed_translation site false) block ≡ true
  pub others : (site : Site) (t : Transit) → list_any (nat_eq k) t.tags ≡ false → chosen site true block t ≡ None
  pub own : (site : Site) (t : Transit) → t.tags ≡ k ∷ [] → IsWritable ends sets src t.packet.src → WritesSource src (chosen site true block t)

-- translations that write the sources of the tags below a number that write one, and nothing for packets without these tags
pub record AreSources (written : ℕ → Option Rewrite) (ends : List End) (sets : List (List Iv)) (most : ℕ) (block : List PfNat) : Type 0 where
  pub printed : (site : Site) → list_all (is_printed_translation site false) block ≡ true
  pub others : (site : Site) (t : Transit) → ((k : ℕ) → k < most → list_any (nat_eq k) t.tags ≡ false) → chosen site true block t ≡ None
  pub own : (site : Site) (t : Transit) (k : ℕ) (w : Rewrite) → k < most → written k ≡ Some w → t.tags ≡ k ∷ []
      → IsWritable ends sets w.src t.packet.src → WritesSource w.src (chosen site true block t)
