use Rattle.std.proofs.Common.{◌≡◌, ◌≤◌, ◌++◌, ℕ, true, false, List, sym, subst}
use Rattle.std.proofs.lemmas.Result.{IfOk-weaker}
use Rattle.fws_iv.specs.declared.iv.Iv.{Iv}
use Rattle.fws_iv.specs.Ivs.{has}
use Rattle.fws_ios_put_entries.specs.declared.path.Path.{Path}
use Rattle.fws_ios_put_entries.specs.declared.side.Side.{Side}
use Rattle.fws_ios_put_entries.specs.declared.side.Side.TheVariants.{Proto, Src, Sport, Dst, Dport, Icmp}
use Rattle.fws_ios_put_entries.specs.Narrowing.{protocol_paths, AreNarrowed, AreNetPaths, AreNumberPaths, AreTypePaths}
use Rattle.fws_ios_put_entries.specs.Paths.{asks, top_of}
use Rattle.fws_ios_put_entries.proofs.Members.{dport_done, dst_done, icmp_done, proto_done, sport_done, src_done}
use Rattle.fws_ios_put_entries.proofs.narrowing.narrowed.Goals as goal

pub returns-in-Proto : goal.returns-in-Proto
returns-in-Proto c =
    let path = c.args.path in
    let side = c.args.side in
    let set = c.args.set.now in
    let free : asks Proto path ≡ false = subst (λ k. asks k path ≡ false) c.in-Proto.is c.requires.free in
    let within : (v : ℕ) → has set v ≡ true → v ≤ 255 = λ v h. subst (λ k. v ≤ top_of k) c.in-Proto.is (c.requires.within v h) in
    let P : List Path → Type 0 = λ paths. AreNumberPaths side set path paths in
    let Q : List Path → Type 0 = λ paths. AreNarrowed path side set paths in
    IfOk-weaker c.number_paths.result P Q (λ paths h. subst (λ k. AreNarrowed path k set paths) (sym c.in-Proto.is) (proto_done path set paths c.requires.writable free (c.requires.detail c.in-Proto.is) within (subst (λ k. AreNumberPaths k set path paths) c.in-Proto.is h))) c.number_paths.ensures

pub returns-in-Dst : goal.returns-in-Dst
returns-in-Dst c =
    let path = c.args.path in
    let side = c.args.side in
    let set = c.args.set.now in
    let free : asks Dst path ≡ false = subst (λ k. asks k path ≡ false) c.in-Dst.is c.requires.free in
    let P : List Path → Type 0 = λ paths. AreNetPaths side set path paths in
    let Q : List Path → Type 0 = λ paths. AreNarrowed path side set paths in
    IfOk-weaker c.net_paths.result P Q (λ paths h. subst (λ k. AreNarrowed path k set paths) (sym c.in-Dst.is) (dst_done path set paths c.requires.writable free (subst (λ k. AreNetPaths k set path paths) c.in-Dst.is h))) c.net_paths.ensures

pub returns-in-Src : goal.returns-in-Src
returns-in-Src c =
    let path = c.args.path in
    let side = c.args.side in
    let set = c.args.set.now in
    let free : asks Src path ≡ false = subst (λ k. asks k path ≡ false) c.in-Src.is c.requires.free in
    let P : List Path → Type 0 = λ paths. AreNetPaths side set path paths in
    let Q : List Path → Type 0 = λ paths. AreNarrowed path side set paths in
    IfOk-weaker c.net_paths-in-Src.result P Q (λ paths h. subst (λ k. AreNarrowed path k set paths) (sym c.in-Src.is) (src_done path set paths c.requires.writable free (subst (λ k. AreNetPaths k set path paths) c.in-Src.is h))) c.net_paths-in-Src.ensures

pub returns-in-Dport : goal.returns-in-Dport
returns-in-Dport c =
    let path = c.args.path in
    let side = c.args.side in
    let set = c.args.set.now in
    let free : asks Dport path ≡ false = subst (λ k. asks k path ≡ false) c.in-Dport.is c.requires.free in
    let within : (v : ℕ) → has set v ≡ true → v ≤ 65535 = λ v h. subst (λ k. v ≤ top_of k) c.in-Dport.is (c.requires.within v h) in
    let parts : List Iv = c.parts.result.now in
    let same : parts ≡ set = c.parts.ensures.value in
    let P : List Path → Type 0 = λ paths. paths ≡ protocol_paths 6 side parts path ++ protocol_paths 17 side parts path in
    let Q : List Path → Type 0 = λ paths. AreNarrowed path side set paths in
    IfOk-weaker c.port_paths.result P Q (λ paths h. subst (λ k. AreNarrowed path k set paths) (sym c.in-Dport.is) (dport_done path set paths c.requires.writable free c.parts.ensures.regular within
    (subst (λ l. paths ≡ protocol_paths 6 Dport l path ++ protocol_paths 17 Dport l path) same (subst (λ (k : Side). paths ≡ protocol_paths 6 k parts path ++ protocol_paths 17 k parts path) c.in-Dport.is h)))) c.port_paths.ensures

pub returns-in-Sport : goal.returns-in-Sport
returns-in-Sport c =
    let path = c.args.path in
    let side = c.args.side in
    let set = c.args.set.now in
    let free : asks Sport path ≡ false = subst (λ k. asks k path ≡ false) c.in-Sport.is c.requires.free in
    let within : (v : ℕ) → has set v ≡ true → v ≤ 65535 = λ v h. subst (λ k. v ≤ top_of k) c.in-Sport.is (c.requires.within v h) in
    let parts : List Iv = c.parts-in-Sport.result.now in
    let same : parts ≡ set = c.parts-in-Sport.ensures.value in
    let P : List Path → Type 0 = λ paths. paths ≡ protocol_paths 6 side parts path ++ protocol_paths 17 side parts path in
    let Q : List Path → Type 0 = λ paths. AreNarrowed path side set paths in
    IfOk-weaker c.port_paths-in-Sport.result P Q (λ paths h. subst (λ k. AreNarrowed path k set paths) (sym c.in-Sport.is) (sport_done path set paths c.requires.writable free c.parts-in-Sport.ensures.regular within
    (subst (λ l. paths ≡ protocol_paths 6 Sport l path ++ protocol_paths 17 Sport l path) same (subst (λ (k : Side). paths ≡ protocol_paths 6 k parts path ++ protocol_paths 17 k parts path) c.in-Sport.is h)))) c.port_paths-in-Sport.ensures

pub returns-in-Icmp : goal.returns-in-Icmp
returns-in-Icmp c =
    let path = c.args.path in
    let side = c.args.side in
    let set = c.args.set.now in
    let free : asks Icmp path ≡ false = subst (λ k. asks k path ≡ false) c.in-Icmp.is c.requires.free in
    let within : (v : ℕ) → has set v ≡ true → v ≤ 255 = λ v h. subst (λ k. v ≤ top_of k) c.in-Icmp.is (c.requires.within v h) in
    let P : List Path → Type 0 = λ paths. AreTypePaths set path paths in
    let Q : List Path → Type 0 = λ paths. AreNarrowed path side set paths in
    IfOk-weaker c.type_paths.result P Q (λ paths h. subst (λ k. AreNarrowed path k set paths) (sym c.in-Icmp.is) (icmp_done path set paths c.requires.writable free within h)) c.type_paths.ensures
