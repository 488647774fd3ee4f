use Rattle.std.proofs.Common.{◌<◌, ◌∙◌, refl, ap, arith, length}
use Rattle.bson_salvaging.proofs.Searching.{search_begun, search_grown, search_over, search_found, search_passed, search_on}
use Rattle.bson_salvaging.proofs.Windows.{longer, takes_then, takes_all, over}
use Rattle.bson_salvaging.proofs.finding.search.Goals as goal

pub loop-window-init : goal.loop-window-init
loop-window-init g c = record { searching = search_begun c.args.looks c.args.window.now (g.S.Source.left c.args.source.now); kept = refl }

pub returns-in_err-fill-clause-taken : goal.returns-in_err-fill-clause-taken
returns-in_err-fill-clause-taken g c = takes_then _ _ _ _ _ c.loop-window.invariant.searching.grows c.in_err-fill.ensures.taken

pub returns-then-bytes-eq0-clause-found : goal.returns-then-bytes-eq0-clause-found
returns-then-bytes-eq0-clause-found g c =
    let s = search_grown _ _ _ _ _ _ _ _ _ c.loop-window.invariant.searching c.in_ok-fill.ensures.grows in
    let none : length c.fill.new.self.bytes < 1 = omega (arith, c.if-bytes-eq0.true, ap length c.bytes.ensures.bytes) in
    search_over _ _ _ _ _ _ _ s (omega (arith, none)) (over c.fill.new.self 1 c.in_ok-fill.ensures.enough none)

pub returns-in_err-look-clause-taken : goal.returns-in_err-look-clause-taken
returns-in_err-look-clause-taken g c =
    let s = search_grown _ _ _ _ _ _ _ _ _ c.loop-window.invariant.searching c.in_ok-fill.ensures.grows in
    takes_then _ _ _ _ _ s.grows c.in_err-look.ensures.taken

pub returns-then-look-clause-found : goal.returns-then-look-clause-found
returns-then-look-clause-found g c =
    let s = search_grown _ _ _ _ _ _ _ _ _ c.loop-window.invariant.searching c.in_ok-fill.ensures.grows in
    let t = search_grown _ _ _ _ _ _ _ _ _ s c.in_ok-look.ensures.grows in
    search_found _ _ _ _ _ _ _ t c.in_ok-look.look (omega (arith, c.if-bytes-eq0.false, ap length c.bytes.ensures.bytes, longer _ _ _ _ c.in_ok-look.ensures.grows)) c.in_ok-look.ensures.settles c.if-look.true

pub returns-then-look-clause-taken : goal.returns-then-look-clause-taken
returns-then-look-clause-taken g c =
    let s = search_grown _ _ _ _ _ _ _ _ _ c.loop-window.invariant.searching c.in_ok-fill.ensures.grows in
    let t = search_grown _ _ _ _ _ _ _ _ _ s c.in_ok-look.ensures.grows in
    takes_all _ _ _ _ t.grows

pub returns-in_default-clause-taken : goal.returns-in_default-clause-taken
returns-in_default-clause-taken g c =
    let s = search_grown _ _ _ _ _ _ _ _ _ c.loop-window.invariant.searching c.in_ok-fill.ensures.grows in
    let t = search_grown _ _ _ _ _ _ _ _ _ s c.in_ok-look.ensures.grows in
    takes_all _ _ _ _ t.grows

pub loop-window-preserved : goal.loop-window-preserved
loop-window-preserved g c =
    let s = search_grown _ _ _ _ _ _ _ _ _ c.loop-window.invariant.searching c.in_ok-fill.ensures.grows in
    let t = search_grown _ _ _ _ _ _ _ _ _ s c.in_ok-look.ensures.grows in
    let some : 0 < length c.counts.new.window.bytes = omega (arith, c.if-bytes-eq0.false, ap length c.bytes.ensures.bytes, longer _ _ _ _ c.in_ok-look.ensures.grows) in
    record {
      searching = search_on _ _ _ _ _ _ _ c.in-Some.next c.gained-left.result
          (search_passed _ _ _ _ _ _ _ t c.in_ok-look.look c.pass.new.self some c.in_ok-look.ensures.settles c.if-look.false c.pass.ensures.bytes c.pass.ensures.ended) (omega (arith, c.in-Some.ensures)) c.gained-left.ensures;
      kept = c.in_ok-look.ensures.kept (λ e. cc) ∙ c.in_ok-fill.ensures.kept (λ e. cc) ∙ c.loop-window.invariant.kept;
    }
