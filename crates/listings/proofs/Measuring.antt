-- The needs of a program, found from its text. Assumes nothing.
use Rattle.std.proofs.Common.{◌≡◌, ℕ, zero, suc, ◌+◌, ◌*◌, ◌<◌, List, [], ◌∷◌, length, get_or, Ok, Err, vec_items, string_bytes, Result, String, sym, refl, ap, ◌∙◌, subst, arith}
use Rattle.std.specs.declared.alloc.Global.{Global}
use Rattle.base.specs.declared.Refusal.{Refusal}
use Rattle.base.specs.declared.Refusal.TheVariants.{Token as BadToken, Program as NoProgram, Limit, Room, Length, Off, Time, Stamp, Point}
use Rattle.lexer.specs.declared.Token.{Token}
use Rattle.lexer.specs.Token.{Cuts, none, skip, piece}
use Rattle.lexer.specs.Pairs.{pairs, tokens_in}
use Rattle.lexer.specs.Outcome.{Whole}
use Rattle.lexer.proofs.Cutting.{one_way, refused_rightly_lem}
use Rattle.lexer.proofs.PairLaws.{pairs_back, pairs_length, cuts_shaped, spelled_word}
use Rattle.syntax.specs.Ast.{Stmt}
use Rattle.syntax.specs.Grammar.{Reads}
use Rattle.syntax.specs.Outcomes.{Parses}
use Rattle.syntax.specs.Program.{ProgramOf}
use Rattle.syntax.specs.Shape.{WellShaped}
use Rattle.syntax.proofs.Complete.{one_tree}
use Rattle.semantics.specs.Needs.{stmt_need}
use Rattle.semantics.specs.Measured.{Measures, Measured}
use Rattle.semantics.specs.declared.limits.Needs.{Needs}
use Rattle.headers.specs.Header.{Plan, read_project}
use Rattle.listings.specs.ListingText.{listing}
use Rattle.loading.specs.declared.load.Failure.{Failure}
use Rattle.loading.specs.declared.load.Failure.TheVariants.{Memory, Header, Program, Script}
use Rattle.loading.specs.declared.load.Loaded.{Loaded}
use Rattle.loading.specs.Loading.{CutUp, Ready, ReadyWithinNeeds, Declined, CutInto}
use Rattle.listings.specs.Listing.{Listed, ListedWithinNeeds, NeedsIn, NeedsOf}

-- every number of a text's tokens is a word
words_cut : {f rest : List ℕ} {ts : List Token} → Cuts f ts rest → (j : ℕ) → j < length ts → get_or (pairs ts) (2 * j + 1) 0 < 65536
unfolding pairs
words_cut none j h = absurd (omega arith)
words_cut (skip y c) j h = words_cut c j h
words_cut (piece w t s p c) zero h = spelled_word w t s
words_cut (piece w t {ts} s p c) (suc j) h =
    let three : 2 * suc j + 1 ≡ suc (suc (2 * j + 1)) = omega arith in
    subst (λ (x : ℕ). get_or (pairs (t ∷ ts)) x 0 < 65536) (sym three) (words_cut c j (omega arith))

-- the pairs of a text's tokens are as they should be
pub cut_shaped : (text : List ℕ) (ts : List Token) → CutUp text ts → WellShaped (pairs ts)
cut_shaped text ts c j h =
    let low : j < length ts = omega (arith, pairs_length ts) in
    record { there = omega (arith, pairs_length ts); few = omega (arith, c.few); word = words_cut c.cuts j low; is = cuts_shaped c.cuts j low }

-- tokens that are a program are not refused
pub not_refused : (xs : List ℕ) (e : Refusal) → Parses xs (Err e) → (text : List ℕ) (ts : List Token) (s : Stmt) → CutUp text ts → xs ≡ pairs ts → Reads ts s → ⊥
not_refused xs (BadToken i) m text ts s c is r =
    m.here (subst WellShaped (sym is) (cut_shaped text ts c) i m.there)
not_refused xs (NoProgram i) p text ts s c is r =
    p.1.none s (subst (λ (us : List Token). Reads us s) (sym (ap tokens_in is ∙ pairs_back ts)) r)
not_refused xs (Limit i) m text ts s c is r = m
not_refused xs (Room i) m text ts s c is r = m
not_refused xs (Length i) m text ts s c is r = m
not_refused xs Off m text ts s c is r = m
not_refused xs Time m text ts s c is r = m
not_refused xs Stamp m text ts s c is r = m
not_refused xs (Point i) m text ts s c is r = m

-- the needs of the tree that tokens are held in are those of the program that they are
pub tree_measured : (xs m : List ℕ) (i : ℕ) (n : Needs) → ProgramOf xs m i → Measured m i n → NeedsIn xs (Ok n)
tree_measured xs m i n p f = λ ts s is r.
    let mine : Reads ts p.program = subst (λ (us : List Token). Reads us p.program) (ap tokens_in is ∙ pairs_back ts) p.reads in
    subst (λ (x : Stmt). Measures (stmt_need x) n) (one_tree ts p.program s mine r) (f p.program p.holds)

-- a text that is read as a header is not refused as one
pub header_read : (project : List ℕ) (p : ℕ) (f : Failure) → read_project project ≡ Err p → NeedsOf project (Err f)
header_read project p f e h s parsed =
    let both = sym parsed.read_up.header ∙ e in
    let z : ◌≡◌ {A = ℕ} 0 1 = cc in
    absurd (omega arith)

same_plan : (h g : Plan) → ◌≡◌ {A = Result Plan ℕ} (Ok h) (Ok g) → h ≡ g
same_plan h g e = cc

-- where a project has a program, its text is cut
pub cut_fails : (project : List ℕ) (g : Plan) (f : Failure) → read_project project ≡ Ok g → CutInto g.program (Err f) → NeedsOf project (Err f)
cut_fails project g Memory e c h s parsed = refl
cut_fails project g (Header x) e c h s parsed = absurd c
cut_fails project g (Script x) e c h s parsed = absurd c
cut_fails project g (Program x) e c h s parsed =
    let up = parsed.read_up.cut_up in
    let same : h ≡ g = same_plan h g (sym parsed.read_up.header ∙ e) in
    let whole : Whole h.program (length parsed.tokens) = record { tokens = parsed.tokens; cuts = up.cuts; count = refl; few = up.few } in
    absurd (refused_rightly_lem g.program c.0 (length parsed.tokens) c.2 (subst (λ (k : Plan). Whole k.program (length parsed.tokens)) same whole))

-- and its tokens are measured
pub measured : (project : List ℕ) (g : Plan) (xs : List ℕ) (us : List Token) (r : Result Needs Failure) → read_project project ≡ Ok g → xs ≡ pairs us → CutUp g.program us → NeedsIn xs r → NeedsOf project r
measured project g xs us (Ok n) e is c m = λ h s parsed.
    let same : h ≡ g = same_plan h g (sym parsed.read_up.header ∙ e) in
    let mine : Cuts g.program parsed.tokens [] = subst (λ (k : Plan). Cuts k.program parsed.tokens []) same parsed.read_up.cut_up.cuts in
    m us s is (subst (λ (ts : List Token). Reads ts s) (one_way g.program parsed.tokens us mine c.cuts) parsed.reads)
measured project g xs us (Err f) e is c m = λ h s parsed.
    let same : h ≡ g = same_plan h g (sym parsed.read_up.header ∙ e) in
    let mine : Cuts g.program parsed.tokens [] = subst (λ (k : Plan). Cuts k.program parsed.tokens []) same parsed.read_up.cut_up.cuts in
    absurd (m g.program us s c is (subst (λ (ts : List Token). Reads ts s) (one_way g.program parsed.tokens us mine c.cuts) parsed.reads))

-- where a project is ready, its needs are wanting only for memory
pub memory_only : (project : List ℕ) (l : Loaded) (f : Failure) → Ready project l → NeedsOf project (Err f) → Declined project f
memory_only project l f r m = subst (Declined project) (sym (m r.plan r.program r.taken.parsed)) tt

-- the listing of a project that is ready
pub listed : (project : List ℕ) (l : Loaded) (n : Needs) (text : String Global) → Ready project l → NeedsOf project (Ok n) → string_bytes text ≡ listing (vec_items l.code) n.cost n.height n.depth → Listed project text
listed project l n text r m e =
    let k = m r.plan r.program r.taken.parsed in
    let cheap : n.cost ≡ (stmt_need r.program).cost = omega (arith, k.cost, r.taken.fits.cheap) in
    record {
      plan = r.plan;
      program = r.program;
      code = vec_items l.code;
      taken = r.taken;
      compiled = r.compiled;
      answer = e ∙ (λ i. listing (vec_items l.code) (cheap i) (k.height i) (k.depth i));
    }

-- and so it is within the needs
pub listed_within_needs : (project : List ℕ) (l : Loaded) (n : Needs) (text : String Global) → ReadyWithinNeeds project l → NeedsOf project (Ok n) → string_bytes text ≡ listing (vec_items l.code) n.cost n.height n.depth → ListedWithinNeeds project text
unfolding listed
listed_within_needs project l n text r m e = record { listed = listed project l n text r.ready m e; within = r.within }
