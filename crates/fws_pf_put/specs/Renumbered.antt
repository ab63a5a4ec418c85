-- Configurations whose tags have other numbers.
use Rattle.std.specs.Prelude.{◌≡◌, ℕ, suc, Bool, true, false, ◌||◌, not, nat_eq, if◌then◌else◌, Option, Some, option_and_then, option_map, List, [], ◌∷◌, ◌++◌, length, map}
use Rattle.std.specs.List.{list_all, list_any}
use Rattle.fws_net.specs.declared.condition.Lit.{Lit}
use Rattle.fws_net.specs.declared.condition.Test.{Test}
use Rattle.fws_net.specs.declared.condition.Test.TheVariants.{Src, Dst, Sport, Dport, Proto, Icmp, Flags, AnyFlag, Recv, Xmit, Via, Outward, Est, Tag, Never}
use Rattle.fws_net.specs.declared.connection.Kind.{Kind}
use Rattle.fws_net.specs.declared.packet.Packet.{Packet}
use Rattle.fws_net.specs.declared.site.Site.{Site}
use Rattle.fws_pf.specs.declared.config.PfConfig.{PfConfig}
use Rattle.fws_pf.specs.declared.config.PfNat.{PfNat}
use Rattle.fws_pf.specs.declared.config.PfRule.{PfRule}
use Rattle.fws_pf.specs.Walk.{walk}
use Rattle.fws_pf_put_filter.specs.Filters.{catches_all}
use Rattle.fws_pf_print.specs.Printable.{behind_rules, behind_translations, is_printable, is_printed_rule, is_printed_translation}

-- Rules whose tags have the numbers that a function gives them

abbrev pub renamed_test : (ℕ → ℕ) → Test → Test
renamed_test f (Tag n) = Tag (f n)
renamed_test f (Src set) = Src set
renamed_test f (Dst set) = Dst set
renamed_test f (Sport set) = Sport set
renamed_test f (Dport set) = Dport set
renamed_test f (Proto set) = Proto set
renamed_test f (Icmp set) = Icmp set
renamed_test f (Flags mask want) = Flags mask want
renamed_test f (AnyFlag mask) = AnyFlag mask
renamed_test f (Recv set) = Recv set
renamed_test f (Xmit set) = Xmit set
renamed_test f (Via set) = Via set
renamed_test f Outward = Outward
renamed_test f Est = Est
renamed_test f Never = Never

abbrev pub renamed_lit : (ℕ → ℕ) → Lit → Lit
renamed_lit f lit = record { not = lit.not; test = renamed_test f lit.test }

abbrev pub renamed_cond : (ℕ → ℕ) → List Lit → List Lit
renamed_cond f cond = map (renamed_lit f) cond

abbrev pub renamed_rule : (ℕ → ℕ) → PfRule → PfRule
renamed_rule f r = record { pass = r.pass; way = r.way; quick = r.quick; cond = renamed_cond f r.cond; tag = option_map f r.tag; keep = r.keep }

abbrev pub renamed_nat : (ℕ → ℕ) → PfNat → PfNat
renamed_nat f nat = record { cond = renamed_cond f nat.cond; to = nat.to; past = nat.past; tag = option_map f nat.tag }

-- a configuration with these names, whose tags have the numbers that a function gives them
abbrev pub renamed : (ℕ → ℕ) → List (List ℕ) → PfConfig → PfConfig
renamed f names c = record {
  skip = c.skip;
  rdr = map (renamed_nat f) c.rdr;
  nat = map (renamed_nat f) c.nat;
  filter = map (renamed_rule f) c.filter;
  tags = names;
}

-- different tags get different numbers
abbrev pub IsApart : (ℕ → ℕ) → Type 0
IsApart f = (m n : ℕ) → f m ≡ f n → m ≡ n

-- with other numbers for its tags a configuration does the same
abbrev pub RenamedWalksAreSame : Type 0
RenamedWalksAreSame = (f : ℕ → ℕ) (names : List (List ℕ)) (c : PfConfig) → IsApart f
    → (site : Site) (p : Packet) (k : Kind) → walk (renamed f names c) site p k ≡ walk c site p k

-- a rule that passes packets keeps state
abbrev pub keeps_state : PfRule → Bool
keeps_state r = not r.pass || r.keep

-- Numbers by places

-- the number of a tag is its place among some; the other tags come behind these
abbrev pub place_in : List ℕ → ℕ → ℕ
place_in [] n = n
place_in (tag ∷ tags) n = if nat_eq n tag then 0 else suc (place_in tags n)

-- Tags that are gathered from a part of the text: they stand behind those that were there, and however many come behind them, so many
-- are known behind the part, numbered by their places, as are there now
pub record Gathers (old new : List ℕ) (behind : (ℕ → ℕ) → ℕ → Option ℕ) : Type 0 where
  pub more : List ℕ
  pub extends : new ≡ old ++ more
  pub counts : (further : List ℕ) → behind (place_in (new ++ further)) (length old) ≡ Some (length new)

-- Whole configurations

-- behind a configuration whose tags have the numbers that a function gives them
abbrev pub behind_all : PfConfig → (ℕ → ℕ) → ℕ → Option ℕ
behind_all c f known =
    option_and_then (behind_rules (map (renamed_rule f) c.filter))
    (option_and_then (behind_translations (map (renamed_nat f) c.nat)) (behind_translations (map (renamed_nat f) c.rdr) known))

-- all tags of a configuration are gathered
abbrev pub HasAllTags : PfConfig → List ℕ → Type 0
HasAllTags c tags = Gathers [] tags (behind_all c)

-- all that is printed of a configuration but its tags
pub record ArePrinted (site : Site) (c : PfConfig) : Type 0 where
  pub skip : c.skip ≡ []
  pub rdr : list_all (is_printed_translation site true) c.rdr ≡ true
  pub nat : list_all (is_printed_translation site false) c.nat ≡ true
  pub filter : list_all (is_printed_rule site) c.filter ≡ true

-- a configuration that does the same, whose tags are numbered as they are printed
pub record IsRenumbered (old new : PfConfig) : Type 0 where
  pub same : (site : Site) (p : Packet) (k : Kind) → walk new site p k ≡ walk old site p k
  pub printable : (site : Site) → ArePrinted site old → is_printable site new ≡ true
  pub skip : new.skip ≡ old.skip
  pub catches : list_any catches_all old.filter ≡ true → list_any catches_all new.filter ≡ true
  pub tracks : list_all keeps_state old.filter ≡ true → list_all keeps_state new.filter ≡ true
