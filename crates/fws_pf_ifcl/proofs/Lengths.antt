-- How many rules translations are.
use Rattle.std.proofs.Common.{◌≡◌, ℕ, suc, ◌+◌, Bool, true, false, List, [], ◌∷◌, ◌++◌, length, arith, refl, length-append}
use Rattle.fws_net.specs.declared.condition.Lit.{Lit}
use Rattle.fws_ifcl.specs.declared.diagram.Act.{Act}
use Rattle.fws_ifcl.specs.declared.diagram.Rule.{Rule}
use Rattle.fws_ifcl_rules.specs.Rules.{always, guard, guarded}
use Rattle.fws_pf.specs.declared.config.PfConfig.{PfConfig}
use Rattle.fws_pf.specs.declared.config.PfNat.{PfNat}
use Rattle.fws_pf.specs.Walk.{translations}
use Rattle.fws_pf_ifcl.specs.Blocks.{changing, leaving, translating, translation, width_with, translation_width, translation_widths, translations_from}
use Rattle.fws_pf_ifcl.specs.Diagram.{tracking, skipping, translations_place, filter_place}

-- the rules of a translation, by what it changes
pub translating_length : (at : ℕ) (cond : List Lit) (leave : Act) (changes : List Rule) → length (translating at cond leave changes) ≡ width_with changes
translating_length at cond leave [] = refl
translating_length at cond leave (change ∷ changes) =
    let inner = change ∷ changes ++ always leave ∷ [] in
    let all : length (guarded at cond inner) ≡ 2 + length inner = length-append (guard at cond (length inner)) inner in
    let more : length inner ≡ suc (length changes) + 1 = length-append (change ∷ changes) (always leave ∷ []) in
    omega (arith, all, more)

-- the rules of a translation
pub translation_length : (outward : Bool) (filter at : ℕ) (nat : PfNat) → length (translation outward filter at nat) ≡ translation_width outward nat
translation_length outward filter at nat = translating_length at nat.cond (leaving filter nat) (changing outward nat)

-- the rules of translations
pub translations_length : (outward : Bool) (filter at : ℕ) (nats : List PfNat) → length (translations_from outward filter at nats) ≡ translation_widths outward nats
translations_length outward filter at [] = refl
translations_length outward filter at (nat ∷ nats) =
    let here = translation outward filter at nat in
    let behind = translations_from outward filter (at + translation_width outward nat) nats in
    let all : length (here ++ behind) ≡ length here + length behind = length-append here behind in
    let first : length here ≡ translation_width outward nat = translation_length outward filter at nat in
    let second : length behind ≡ translation_widths outward nats = translations_length outward filter (at + translation_width outward nat) nats in
    omega (arith, all, first, second)

-- the rules ahead of the translations
pub first_length : (outward : Bool) (c : PfConfig) → length (tracking outward ++ skipping c) ≡ translations_place outward
first_length true c = refl
first_length false c = refl

-- the rules ahead of the filter rules
pub front_length : (outward : Bool) (c : PfConfig)
    → length (tracking outward ++ skipping c ++ translations_from outward (filter_place outward c) (translations_place outward) (translations c outward)) ≡ filter_place outward c
front_length outward c =
    let first = tracking outward ++ skipping c in
    let nats = translations c outward in
    let middle = translations_from outward (filter_place outward c) (translations_place outward) nats in
    let few : length first ≡ translations_place outward = first_length outward c in
    let wide : length middle ≡ translation_widths outward nats = translations_length outward (filter_place outward c) (translations_place outward) nats in
    let many : length (first ++ middle) ≡ length first + length middle = length-append first middle in
    omega (arith, few, wide, many)
