use Rattle.std.proofs.Common.{◌≡◌, suc, ◌+◌, ◌++◌, List, refl, sym, ap, subst}
use Rattle.std.proofs.lemmas.Result.{IfOk-weaker}
use Rattle.fws_pf_put_nat.specs.declared.path.Path.{Path}
use Rattle.fws_pf_put_nat.specs.declared.side.Side.{Side}
use Rattle.fws_pf_put_nat.specs.declared.side.Side.TheVariants.{Entry, Proto}
use Rattle.fws_pf_put_nat.specs.Scenes.{Scene}
use Rattle.fws_pf_put_nat.specs.Turns.{ArePaths}
use Rattle.fws_pf_put_nat.specs.Narrowing.{protocol_paths, range_paths, AreNumberPaths, AreNumbers}
use Rattle.fws_pf_put_nat.specs.Paths.{number_of}
use Rattle.fws_pf_put_nat.proofs.Narrowed.{entry_inward, number_paths_done, ranges_done, IsMade}
use Rattle.fws_pf_put_nat.proofs.narrowing.set_paths.Goals as goal
use Rattle.fws_pf_put_nat.specs.Sheets.{scene_of}

pub number_paths-requires-clause-number : goal.number_paths-requires-clause-number
number_paths-requires-clause-number c =
    let sheet = c.args.sheet.now in
    let numbers : AreNumbers sheet.site.now sheet.outward Entry 1 (c.len.result + 1) = (refl, ap (λ n. n + 1) c.len.ensures, entry_inward sheet.outward c.args.side c.in-Entry.is c.requires.inward) in
    (sheet.site.now, sheet.outward, subst (λ k. AreNumbers sheet.site.now sheet.outward k 1 (c.len.result + 1)) (sym c.in-Entry.is) numbers)

pub number_paths-requires-in-Proto-clause-number : goal.number_paths-requires-in-Proto-clause-number
number_paths-requires-in-Proto-clause-number c =
    let sheet = c.args.sheet.now in
    let numbers : AreNumbers sheet.site.now sheet.outward Proto 0 255 = (refl, refl) in
    (sheet.site.now, sheet.outward, subst (λ k. AreNumbers sheet.site.now sheet.outward k 0 255) (sym c.in-Proto.is) numbers)

pub returns-in-Entry : goal.returns-in-Entry
returns-in-Entry c =
    let sheet = c.args.sheet.now in
    let side = c.args.side in
    let s : Scene = (scene_of sheet) in
    let numbers : AreNumbers sheet.site.now sheet.outward Entry 1 (c.len.result + 1) = (refl, ap (λ n. n + 1) c.len.ensures, entry_inward sheet.outward c.args.side c.in-Entry.is c.requires.inward) in
    let own : AreNumbers s.site s.outward side 1 (c.len.result + 1) = subst (λ k. AreNumbers sheet.site.now sheet.outward k 1 (c.len.result + 1)) (sym c.in-Entry.is) numbers in
    let P : List Path → Type 0 = λ paths. AreNumberPaths side c.args.set.now c.args.path 1 (c.len.result + 1 + 1) paths in
    let Q : List Path → Type 0 = λ paths. ArePaths s side c.args.set.now c.args.path (suc (number_of side)) paths in
    IfOk-weaker c.number_paths.result P Q (λ paths h. number_paths_done s side c.args.set.now c.args.path 1 (c.len.result + 1) paths c.requires.planned own c.requires.good h) c.number_paths.ensures

pub returns-in-Proto : goal.returns-in-Proto
returns-in-Proto c =
    let sheet = c.args.sheet.now in
    let side = c.args.side in
    let s : Scene = (scene_of sheet) in
    let numbers : AreNumbers sheet.site.now sheet.outward Proto 0 255 = (refl, refl) in
    let own : AreNumbers s.site s.outward side 0 255 = subst (λ k. AreNumbers sheet.site.now sheet.outward k 0 255) (sym c.in-Proto.is) numbers in
    let P : List Path → Type 0 = λ paths. AreNumberPaths side c.args.set.now c.args.path 0 (255 + 1) paths in
    let Q : List Path → Type 0 = λ paths. ArePaths s side c.args.set.now c.args.path (suc (number_of side)) paths in
    IfOk-weaker c.number_paths-in-Proto.result P Q (λ paths h. number_paths_done s side c.args.set.now c.args.path 0 255 paths c.requires.planned own c.requires.good h) c.number_paths-in-Proto.ensures

pub returns-in-Dst : goal.returns-in-Dst
returns-in-Dst c =
    let sheet = c.args.sheet.now in
    let side = c.args.side in
    let parts = c.parts.result.now in
    let s : Scene = (scene_of sheet) in
    let P : List Path → Type 0 = λ paths. paths ≡ range_paths side parts c.args.path in
    let Q : List Path → Type 0 = λ paths. ArePaths s side c.args.set.now c.args.path (suc (number_of side)) paths in
    IfOk-weaker c.address_paths.result P Q
    (λ paths h. ranges_done s side c.args.set.now parts c.args.path paths c.requires.planned c.requires.good c.requires.within c.parts.ensures.value c.parts.ensures.regular
    (subst (λ k. IsMade k parts c.args.path paths) (sym c.in-Dst.is) (subst (λ (k : Side). paths ≡ range_paths k parts c.args.path) c.in-Dst.is h))) c.address_paths.ensures

pub returns-in-Src : goal.returns-in-Src
returns-in-Src c =
    let sheet = c.args.sheet.now in
    let side = c.args.side in
    let parts = c.parts-in-Src.result.now in
    let s : Scene = (scene_of sheet) in
    let P : List Path → Type 0 = λ paths. paths ≡ range_paths side parts c.args.path in
    let Q : List Path → Type 0 = λ paths. ArePaths s side c.args.set.now c.args.path (suc (number_of side)) paths in
    IfOk-weaker c.address_paths-in-Src.result P Q
    (λ paths h. ranges_done s side c.args.set.now parts c.args.path paths c.requires.planned c.requires.good c.requires.within c.parts-in-Src.ensures.value c.parts-in-Src.ensures.regular
    (subst (λ k. IsMade k parts c.args.path paths) (sym c.in-Src.is) (subst (λ (k : Side). paths ≡ range_paths k parts c.args.path) c.in-Src.is h))) c.address_paths-in-Src.ensures

pub returns-in-Dport : goal.returns-in-Dport
returns-in-Dport c =
    let sheet = c.args.sheet.now in
    let side = c.args.side in
    let parts = c.parts-in-Dport.result.now in
    let s : Scene = (scene_of sheet) in
    let P : List Path → Type 0 = λ paths. paths ≡ protocol_paths 6 side parts c.args.path ++ protocol_paths 17 side parts c.args.path in
    let Q : List Path → Type 0 = λ paths. ArePaths s side c.args.set.now c.args.path (suc (number_of side)) paths in
    IfOk-weaker c.port_paths.result P Q
    (λ paths h. ranges_done s side c.args.set.now parts c.args.path paths c.requires.planned c.requires.good c.requires.within c.parts-in-Dport.ensures.value c.parts-in-Dport.ensures.regular
    (subst (λ k. IsMade k parts c.args.path paths) (sym c.in-Dport.is) (subst (λ (k : Side). paths ≡ protocol_paths 6 k parts c.args.path ++ protocol_paths 17 k parts c.args.path) c.in-Dport.is h))) c.port_paths.ensures

pub returns-in-Sport : goal.returns-in-Sport
returns-in-Sport c =
    let sheet = c.args.sheet.now in
    let side = c.args.side in
    let parts = c.parts-in-Sport.result.now in
    let s : Scene = (scene_of sheet) in
    let P : List Path → Type 0 = λ paths. paths ≡ protocol_paths 6 side parts c.args.path ++ protocol_paths 17 side parts c.args.path in
    let Q : List Path → Type 0 = λ paths. ArePaths s side c.args.set.now c.args.path (suc (number_of side)) paths in
    IfOk-weaker c.port_paths-in-Sport.result P Q
    (λ paths h. ranges_done s side c.args.set.now parts c.args.path paths c.requires.planned c.requires.good c.requires.within c.parts-in-Sport.ensures.value c.parts-in-Sport.ensures.regular
    (subst (λ k. IsMade k parts c.args.path paths) (sym c.in-Sport.is) (subst (λ (k : Side). paths ≡ protocol_paths 6 k parts c.args.path ++ protocol_paths 17 k parts c.args.path) c.in-Sport.is h))) c.port_paths-in-Sport.ensures
