-- The examples come out, by computation.
use Rattle.std.proofs.Common.{◌≡◌, ℕ, ◌≤◌, true, List, [], ◌∷◌, length, replicate, Ok, refl, ◌∙◌, arith}
use Rattle.std.specs.Fmt.{digits}
use Rattle.base.specs.declared.Op.TheVariants.{Add, Sub, Div, Less, And, Or}
use Rattle.lexer.specs.declared.Token.{Token}
use Rattle.lexer.specs.declared.Token.TheVariants.{Number as number, Name as name, Operator as operator, Mark as mark}
use Rattle.lexer.specs.declared.Mark.TheVariants.{Not, Open, Close, Assign, Semicolon, Comma, If, Then, Else, Repeat, Times, Delay, End}
use Rattle.lexer.specs.Pairs.{code}
use Rattle.syntax.specs.Ast.{lit, var, invert, binary, Stmt, skip, assign, seq, branch, repeat, delay}
use Rattle.syntax.specs.Grammar.{strength}
use Rattle.syntax.specs.Parser.{accepted, closed, inverts, climb, only, finish, on_else, on_end, begin, prefix, step, at_top, whole_program, run, parse}
use Rattle.syntax.specs.Parser as parser
use Rattle.syntax.proofs.Sound.{sound}
use Rattle.semantics.specs.Eval.{eval, faults, iterate, exec}
use Rattle.semantics.specs.Needs.{expr_need, stmt_need, Fits}
use Rattle.retain.specs.Device.{stamp, recovered, value_writes, slot_writes, commit_writes, apply_writes, cut_writes, write_count, came_out, factory as new_device}
use Rattle.retain.specs.Story.{cut_leaves}
use Rattle.controller.specs.World.{input_image, executed, output_image, outputs, off, started, scanned, forced_at, freed_at}
use Rattle.controller.specs.Story.{as_made, tell}
use Rattle.controller.specs.History.{react, factory, after}
use Rattle.controller.specs.Decided.{decide}
use Rattle.scripts.specs.declared.script.Input.{Input}
use Rattle.headers.specs.Header.{Plan, blank_header, take_marks}
use Rattle.formats.specs.HeaderText.{marked}
use Rattle.scripts.specs.Script.{Request, read_script, start, scan, cut, force, free, take_pairs, inputs_after}
use Rattle.lines.specs.Words.{blank}
use Rattle.lines.specs.Reading.{number_of, name_of}
use Rattle.project.specs.Play.{line_refusal, values_from, changed_from, act, report, plays, taken, decisions, zip, played}
use Rattle.loading.specs.Loading.{CutUp, ReadUp, Parsed, Taken}
use Rattle.project.specs.Loading.{project_of}
use Rattle.laws.specs.Examples.{Example, ComesOut, motor, sum, wait, quotient, choice, counter, ExamplesComeOut}
use Rattle.laws.proofs.Spelled.{Spaced, spelling, writable, all_blank, apart, text_of, tokens_of, well_spaced, cut_text}
use Rattle.laws.proofs.Quick.{lines, words, header, project_read, script, script_read}
use Rattle.laws.proofs.Taken.{settled}

-- what an example is made of, and that this is so, each to be computed
module _ (x : Example) (kept : ℕ) (outside : List ℕ) (at : ℕ) (pieces : List Spaced) (tree : Stmt) (requests : List Request) where
  abbrev plan_of : Plan
  plan_of = record { kept = kept; inputs = marked (replicate 64 0) outside; firsts = replicate 64 0; at = at; program = text_of pieces }

  comes_out : header x.project blank_header (lines 0 [] x.project) ≡ Ok plan_of → kept ≤ 64 → well_spaced pieces ≡ true → length (tokens_of pieces) ≤ 4096 →
      parse (tokens_of pieces) ≡ accepted tree → Fits (stmt_need tree) → (stmt_need tree).cost ≡ x.cost → script [] (lines 0 [] x.script) ≡ Ok requests →
      played (project_of plan_of tree) requests ≡ x.told → ComesOut x
  comes_out says few spacing short parses fits costs asks tells =
      let read : read_script x.script ≡ Ok requests = script_read x.script ∙ asks in
      let cut_up : CutUp (text_of pieces) (tokens_of pieces) = record { cuts = cut_text pieces spacing; few = short } in
      let read_up : ReadUp x.project plan_of (tokens_of pieces) = record { header = project_read x.project ∙ says; cut_up = cut_up } in
      let parsed : Parsed x.project plan_of tree = record { tokens = tokens_of pieces; read_up = read_up; reads = sound (tokens_of pieces) tree parses } in
      let taken : Taken x.project plan_of tree = record { parsed = parsed; fits = fits; low = few } in
      record {
        plan = plan_of;
        program = tree;
        requests = requests;
        taken = taken;
        costs = costs;
        read = read;
        tells = tells;
        answers = λ text p. settled x.project x.script plan_of tree requests taken read text p ∙ tells;
      }

abbrev input : ℕ → ℕ → Input
input i v = record { variable = i; value = v }

-- a token with nothing after it, with a blank, with a line feed
abbrev tight : Token → Spaced
tight t = (t, [])

abbrev gap : Token → Spaced
gap t = (t, 32 ∷ [])

abbrev feed : Token → Spaced
feed t = (t, 10 ∷ [])

-- one row, and the rows after it
infixr 20 ◌also◌
◌also◌ : {A B : Type 0} → A → B → A × B
a also b = (a, b)

pub examples_come_out_lem : ExamplesComeOut
unfolding header script lines words blank number_of name_of take_marks take_pairs digits spelling writable all_blank apart text_of tokens_of well_spaced parse run step begin prefix finish only on_else on_end climb inverts closed at_top whole_program code strength parser.start stmt_need expr_need marked plays zip decisions report act taken line_refusal values_from changed_from tell scanned started executed input_image outputs output_image as_made off react factory after decide exec eval faults iterate inputs_after forced_at freed_at stamp recovered value_writes slot_writes commit_writes apply_writes cut_writes write_count came_out new_device cut_leaves
examples_come_out_lem =
    comes_out motor 0 (0 ∷ 1 ∷ []) 22
    (gap (name 2) ∷ gap (mark Assign) ∷ tight (mark Open) ∷ gap (name 0) ∷ gap (operator Or) ∷ tight (name 2) ∷ gap (mark Close) ∷ gap (operator And) ∷ gap (mark Not) ∷ tight (name 1) ∷ feed (mark Semicolon) ∷ [])
    (seq (assign 2 (binary And (binary Or (var 0) (var 2)) (invert (var 1)))) skip)
    (start ∷ scan 10 (input 0 1 ∷ []) ∷ scan 10 (input 0 0 ∷ []) ∷ scan 10 (input 1 1 ∷ []) ∷ scan 10 (input 1 0 ∷ []) ∷ force 2 1 ∷ scan 10 [] ∷ free 2 ∷ scan 10 [] ∷ [])
    refl (omega arith) refl (omega arith) refl (search arith) refl refl refl also
    comes_out sum 0 (0 ∷ []) 19
    (gap (mark Repeat) ∷ gap (number 5) ∷ gap (mark Times) ∷ gap (name 2) ∷ gap (mark Assign) ∷ gap (name 2) ∷ gap (operator Add) ∷ tight (name 0) ∷ gap (mark Semicolon) ∷ tight (mark End) ∷ tight (mark Semicolon) ∷ [])
    (seq (repeat 5 (seq (assign 2 (binary Add (var 2) (var 0))) skip)) skip)
    (start ∷ scan 1 (input 0 3 ∷ []) ∷ scan 1 [] ∷ scan 1 (input 0 13101 ∷ []) ∷ [])
    refl (omega arith) refl (omega arith) refl (search arith) refl refl refl also
    comes_out wait 0 (0 ∷ []) 19
    (gap (mark Delay) ∷ tight (name 2) ∷ gap (mark Comma) ∷ tight (name 3) ∷ gap (mark Comma) ∷ tight (name 0) ∷ gap (mark Comma) ∷ tight (number 5) ∷ tight (mark Semicolon) ∷ [])
    (seq (delay 2 3 (var 0) 5) skip)
    (start ∷ scan 2 (input 0 1 ∷ []) ∷ scan 2 [] ∷ scan 2 [] ∷ scan 2 (input 0 0 ∷ []) ∷ [])
    refl (omega arith) refl (omega arith) refl (search arith) refl refl refl also
    comes_out quotient 0 (0 ∷ []) 19
    (gap (name 2) ∷ gap (mark Assign) ∷ gap (number 100) ∷ gap (operator Div) ∷ tight (name 0) ∷ tight (mark Semicolon) ∷ [])
    (seq (assign 2 (binary Div (lit 100) (var 0))) skip)
    (start ∷ scan 1 (input 0 7 ∷ []) ∷ scan 1 (input 0 0 ∷ []) ∷ scan 1 (input 0 100 ∷ []) ∷ [])
    refl (omega arith) refl (omega arith) refl (search arith) refl refl refl also
    comes_out choice 0 (0 ∷ []) 19
    (gap (mark If) ∷ gap (name 0) ∷ gap (operator Less) ∷ gap (number 10) ∷ gap (mark Then) ∷ gap (name 2) ∷ gap (mark Assign) ∷ tight (number 1) ∷ gap (mark Semicolon) ∷ gap (mark Else) ∷ gap (name 2) ∷ gap (mark Assign) ∷ gap (number 65535) ∷ gap (operator Add) ∷ tight (number 2) ∷ gap (mark Semicolon) ∷ gap (name 3) ∷ gap (mark Assign) ∷ gap (number 0) ∷ gap (operator Sub) ∷ tight (number 1) ∷ gap (mark Semicolon) ∷ tight (mark End) ∷ tight (mark Semicolon) ∷ [])
    (seq (branch (binary Less (var 0) (lit 10)) (seq (assign 2 (lit 1)) skip) (seq (assign 2 (binary Add (lit 65535) (lit 2))) (seq (assign 3 (binary Sub (lit 0) (lit 1))) skip))) skip)
    (start ∷ scan 1 (input 0 9 ∷ []) ∷ scan 1 (input 0 10 ∷ []) ∷ [])
    refl (omega arith) refl (omega arith) refl (search arith) refl refl refl also
    comes_out counter 1 [] 15
    (gap (name 0) ∷ gap (mark Assign) ∷ gap (name 0) ∷ gap (operator Add) ∷ tight (number 1) ∷ feed (mark Semicolon) ∷ gap (name 1) ∷ gap (mark Assign) ∷ gap (name 0) ∷ gap (operator Sub) ∷ tight (number 3) ∷ feed (mark Semicolon) ∷ [])
    (seq (assign 0 (binary Add (var 0) (lit 1))) (seq (assign 1 (binary Sub (var 0) (lit 3))) skip))
    (start ∷ scan 10 [] ∷ scan 10 [] ∷ scan 10 [] ∷ cut 10 0 9 [] ∷ scan 10 [] ∷ start ∷ scan 10 [] ∷ cut 10 2 9 [] ∷ start ∷ cut 10 0 6 [] ∷ start ∷ cut 10 3 9 [] ∷ start ∷ force 1 7 ∷ scan 10 [] ∷ free 1 ∷ scan 10 [] ∷ scan 70000 [] ∷ force 64 1 ∷ force 2 70000 ∷ [])
    refl (omega arith) refl (omega arith) refl (search arith) refl refl refl also
    tt
