-- Chains that reach themselves, and what sizes and walks are where none does.
use Rattle.std.specs.Prelude.{◌≡◌, ℕ, ◌+◌, ◌<◌, ◌≤◌, true, false, List, [], Some, None, Contains, length, map, sum}
use Rattle.fws_net.specs.declared.packet.Packet.{Packet}
use Rattle.fws_net.specs.declared.connection.Kind.{Kind}
use Rattle.fws_net.specs.declared.site.Site.{Site}
use Rattle.fws_net.specs.declared.transit.Transit.{Transit}
use Rattle.fws_ifcl.specs.declared.diagram.Chain.{Chain}
use Rattle.fws_ifcl.specs.declared.diagram.Stage.{Stage}
use Rattle.fws_ifcl.specs.declared.diagram.Ifcl.{Ifcl}
use Rattle.fws_ifcl.specs.declared.refusal.UnfoldRefusal.TheVariants.{Loop}
use Rattle.fws_ifcl.specs.Refusals.{named_in, is_looped, size_within, size_of, refusal_of}
use Rattle.fws_ifcl.specs.Soundness.{ifcl_ok}
use Rattle.fws_ifcl.specs.Walk.{rules_at, rules_walk, chain_walk}
use Rattle.fws_ifcl.specs.Uses.{rules_used, chain_used}

-- a chain reaches another by one or more steps, each from a chain to one that it names
pub data Reaches (chains : List Chain) : ℕ → ℕ → Type 0 where
  names : {a b : ℕ} → Contains (named_in chains a) b → Reaches chains a b
  names_first : {a b c : ℕ} → Contains (named_in chains a) b → Reaches chains b c → Reaches chains a c

-- a chain that reaches itself is found, although only so many steps are tried as there are chains
abbrev pub LoopsAreFound : Type 0
LoopsAreFound = (chains : List Chain) (c : ℕ) → Reaches chains c c → is_looped chains c ≡ true

-- a chain that is found reaches itself
abbrev pub LoopsAreReal : Type 0
LoopsAreReal = (chains : List Chain) (c : ℕ) → is_looped chains c ≡ true → Reaches chains c c

-- no chain reaches itself
abbrev pub NoLoop : List Chain → Type 0
NoLoop chains = (c : ℕ) → is_looped chains c ≡ false

-- what is refused for a loop at a chain has that loop
abbrev pub RefusedLoopsAreReal : Type 0
RefusedLoopsAreReal = (f : Ifcl) (n : ℕ) → refusal_of f ≡ Some (Loop n) → Reaches f.chains n n

-- what isn't refused has no loop
abbrev pub UnrefusedHaveNoLoop : Type 0
UnrefusedHaveNoLoop = (f : Ifcl) → refusal_of f ≡ None → NoLoop f.chains

-- rules name no other chains than those of the list
abbrev pub NamesChains : List Chain → Type 0
NamesChains chains = (a b : ℕ) → Contains (named_in chains a) b → b < length chains

-- in a diagram that is ok rules name its chains
abbrev pub OkDiagramsNameChains : Type 0
OkDiagramsNameChains = (f : Ifcl) → ifcl_ok f ≡ true → NamesChains f.chains

-- Sizes without loops

-- no size changes where more chains may be entered than there are
abbrev pub SizesStandStill : Type 0
SizesStandStill = (chains : List Chain) → NoLoop chains → (n c : ℕ) → length chains ≤ n → size_within chains n c ≡ size_of chains c

-- a chain's size is the number of its rules and the sizes of the chains that it names
abbrev pub SizesUnfold : Type 0
SizesUnfold = (chains : List Chain) → NoLoop chains
    → (c : ℕ) → size_of chains c ≡ length (rules_at chains c) + sum (map (size_of chains) (named_in chains c))

-- Walks without loops, through a list that has a chain: in a list without any none may be entered, and walks drop

-- no walk changes where more chains may be entered than there are
abbrev pub WalksStandStill : Type 0
WalksStandStill = (chains : List Chain) (site : Site) (p : Packet) (k : Kind) (stage : Stage) → NoLoop chains → NamesChains chains → 0 < length chains
    → (n c : ℕ) (t : Transit) → length chains ≤ n
    → chain_walk chains site p k stage n [] c t ≡ chain_walk chains site p k stage (length chains) [] c t

-- the walk through a chain is the walk of its rules, where each chain that they name is entered likewise
abbrev pub WalksUnfold : Type 0
WalksUnfold = (chains : List Chain) (site : Site) (p : Packet) (k : Kind) (stage : Stage) → NoLoop chains → NamesChains chains → 0 < length chains
    → (c : ℕ) (t : Transit)
    → chain_walk chains site p k stage (length chains) [] c t
    ≡ rules_walk (chain_walk chains site p k stage (length chains) []) site p k stage 0 (rules_at chains c) 0 t

-- what is used in a chain is what its rules use, where in each chain that they name it is used likewise
abbrev pub UsesUnfold : Type 0
UsesUnfold = (chains : List Chain) (site : Site) (p : Packet) (k : Kind) (stage : Stage) → NoLoop chains → NamesChains chains → 0 < length chains
    → (c : ℕ) (t : Transit)
    → chain_used chains site p k stage (length chains) [] c t
    ≡ rules_used (chain_used chains site p k stage (length chains) []) (chain_walk chains site p k stage (length chains) []) c site p k stage 0 (rules_at chains c) 0 t
