-- Chains that reach themselves, and what sizes and walks are where none does.
use Rattle.std.specs.Prelude.{◌≡◌, ℕ, ◌+◌, ◌<◌, ◌≤◌, Bool, true, false, List, [], Some, None, Contains, length, map, sum}
use Rattle.fws_net.specs.declared.packet.Packet.{Packet}
use Rattle.fws_net.specs.declared.site.Site.{Site}
use Rattle.fws_ipt.specs.declared.config.IptChain.{IptChain}
use Rattle.fws_ipt.specs.declared.config.IptConfig.{IptConfig}
use Rattle.fws_ipt.specs.declared.hook.Hook.{Hook}
use Rattle.fws_ipt.specs.declared.passage.Passage.{Passage}
use Rattle.fws_ipt.specs.declared.refusal.UnfoldRefusal.TheVariants.{Loop}
use Rattle.fws_ipt.specs.Refusals.{named_in, is_looped, width_at, size_within, size_of, refusal_of}
use Rattle.fws_ipt.specs.Soundness.{is_fitting}
use Rattle.fws_ipt.specs.Walk.{rules_at, rules_walk, chain_walk}

-- a chain reaches another by one or more steps, each from a chain to one that it names
pub data Reaches (chains : List IptChain) : ℕ → ℕ → Type 0 where
  names : {a b : ℕ} → Contains (named_in chains a) b → Reaches chains a b
  names_first : {a b c : ℕ} → Contains (named_in chains a) b → Reaches chains b c → Reaches chains a c

-- a chain that reaches itself is found, although only so many steps are tried as there are chains
abbrev pub LoopsAreFound : Type 0
LoopsAreFound = (chains : List IptChain) (c : ℕ) → Reaches chains c c → is_looped chains c ≡ true

-- a chain that is found reaches itself
abbrev pub LoopsAreReal : Type 0
LoopsAreReal = (chains : List IptChain) (c : ℕ) → is_looped chains c ≡ true → Reaches chains c c

-- no chain reaches itself
abbrev pub NoLoop : List IptChain → Type 0
NoLoop chains = (c : ℕ) → is_looped chains c ≡ false

-- what is refused for a loop at a chain has that loop
abbrev pub RefusedLoopsAreReal : Type 0
RefusedLoopsAreReal = (site : Site) (c : IptConfig) (n : ℕ) → refusal_of site c ≡ Some (Loop n) → Reaches c.chains n n

-- what isn't refused has no loop
abbrev pub UnrefusedHaveNoLoop : Type 0
UnrefusedHaveNoLoop = (site : Site) (c : IptConfig) → refusal_of site c ≡ None → NoLoop c.chains

-- rules name no other chains than those of the list
abbrev pub NamesChains : List IptChain → Type 0
NamesChains chains = (a b : ℕ) → Contains (named_in chains a) b → b < length chains

-- in a fitting configuration rules name its chains
abbrev pub FittingNamesChains : Type 0
FittingNamesChains = (c : IptConfig) → is_fitting c ≡ true → NamesChains c.chains

-- Sizes without loops

-- no size changes where more chains may be entered than there are
abbrev pub SizesStandStill : Type 0
SizesStandStill = (f : ℕ) (chains : List IptChain) → NoLoop chains
    → (n c : ℕ) → length chains ≤ n → size_within f chains n c ≡ size_of f chains c

-- a chain's size is its width and the sizes of the chains that it names
abbrev pub SizesUnfold : Type 0
SizesUnfold = (f : ℕ) (chains : List IptChain) → NoLoop chains
    → (c : ℕ) → size_of f chains c ≡ width_at f chains c + sum (map (size_of f chains) (named_in chains c))

-- Walks without loops, through a list that has a chain: in a list without any none may be entered, and walks drop

-- no walk changes where more chains may be entered than there are
abbrev pub WalksStandStill : Type 0
WalksStandStill = (chains : List IptChain) (site : Site) (p : Packet) (is_est : Bool) (hook : Hook) → NoLoop chains → NamesChains chains → 0 < length chains
    → (n c : ℕ) (m : Passage) → length chains ≤ n
    → chain_walk chains site p is_est hook n [] c m ≡ chain_walk chains site p is_est hook (length chains) [] c m

-- the walk through a chain is the walk of its rules, where each chain that they name is entered likewise
abbrev pub WalksUnfold : Type 0
WalksUnfold = (chains : List IptChain) (site : Site) (p : Packet) (is_est : Bool) (hook : Hook) → NoLoop chains → NamesChains chains → 0 < length chains
    → (c : ℕ) (m : Passage)
    → chain_walk chains site p is_est hook (length chains) [] c m
    ≡ rules_walk (chain_walk chains site p is_est hook (length chains) []) site p is_est hook (rules_at chains c) m
