-- Examples from text to text, and that each comes out as it stands here. Assumes nothing: these are definitions and a statement.
use Rattle.std.specs.Prelude.{◌≡◌, ℕ, List, [], ◌∷◌, Ok, string_bytes, codes, String}
use Rattle.std.specs.declared.alloc.Global.{Global}
use Rattle.syntax.specs.Ast.{Stmt}
use Rattle.semantics.specs.Needs.{stmt_need}
use Rattle.headers.specs.Header.{Plan}
use Rattle.scripts.specs.Script.{Request, read_script}
use Rattle.project.specs.Play.{played}
use Rattle.loading.specs.Loading.{Taken}
use Rattle.project.specs.Loading.{Played, project_of}
use Rattle.laws.specs.Texts.{Every}

-- a project's text, what a scan of it costs at most, a script, and what is told of that
pub record Example : Type 0 where
  pub project : List ℕ
  pub cost : ℕ
  pub script : List ℕ
  pub told : List ℕ

-- the project is taken and costs so much, the script is read, and this is told of it; so whatever `play` answers is this text
pub record ComesOut (x : Example) : Type 0 where
  pub plan : Plan
  pub program : Stmt
  pub requests : List Request
  pub taken : Taken x.project plan program
  pub costs : (stmt_need program).cost ≡ x.cost
  pub read : read_script x.script ≡ Ok requests
  pub tells : played (project_of plan program) requests ≡ x.told
  pub answers : (text : String Global) → Played x.project x.script text → string_bytes text ≡ x.told

-- a motor with a button that starts it and one that stops it; then it is forced, and goes on when it is freed
abbrev pub motor : Example
motor =
    record {
      project = codes "outside v0 v1\nprogram\nv2 := (v0 or v2) and not v1;\n";
      cost = 7;
      script = codes "start\nscan 10: v0 1\nscan 10: v0 0\nscan 10: v1 1\nscan 10: v1 0\nforce v2 1\nscan 10\nfree v2\nscan 10\n";
      told = codes "start:\nscan: v0 1 v2 1\nscan: v0 0\nscan: v1 1 v2 0\nscan: v1 0\nscan: v2 1\nscan:\n";
    }

-- a sum in five rounds, up to the largest word
abbrev pub sum : Example
sum =
    record {
      project = codes "outside v0\nprogram\nrepeat 5 times v2 := v2 + v0; end;";
      cost = 26;
      script = codes "start\nscan 1: v0 3\nscan 1\nscan 1: v0 13101\n";
      told = codes "start:\nscan: v0 3 v2 15\nscan: v2 30\nscan: v0 13101 v2 65535\n";
    }

-- a delay that counts to its length, and forgets when its condition goes
abbrev pub wait : Example
wait =
    record {
      project = codes "outside v0\nprogram\ndelay v2, v3, v0, 5;";
      cost = 2;
      script = codes "start\nscan 2: v0 1\nscan 2\nscan 2\nscan 2: v0 0\n";
      told = codes "start:\nscan: v0 1 v3 2\nscan: v3 4\nscan: v2 1 v3 5\nscan: v0 0 v2 0 v3 0\n";
    }

-- a quotient by 0 is 0 and lights the lamp
abbrev pub quotient : Example
quotient =
    record {
      project = codes "outside v0\nprogram\nv2 := 100 / v0;";
      cost = 4;
      script = codes "start\nscan 1: v0 7\nscan 1: v0 0\nscan 1: v0 100\n";
      told = codes "start:\nscan: v0 7 v2 14\nscan: v0 0 v2 0 lamp lit\nscan: v0 100 v2 1\n";
    }

-- a choice; sums and differences go round
abbrev pub choice : Example
choice =
    record {
      project = codes "outside v0\nprogram\nif v0 < 10 then v2 := 1; else v2 := 65535 + 2; v3 := 0 - 1; end;";
      cost = 12;
      script = codes "start\nscan 1: v0 9\nscan 1: v0 10\n";
      told = codes "start:\nscan: v0 9 v2 1\nscan: v0 10 v3 65535\n";
    }

-- a counter that outlasts cuts: before the last write, in it with either outcome, and after it; then a forced point, and requests that are refused
abbrev pub counter : Example
counter =
    record {
      project = codes "kept 1\nprogram\nv0 := v0 + 1;\nv1 := v0 - 3;\n";
      cost = 8;
      script = codes "start\nscan 10\nscan 10\nscan 10\ncut 10 at 0 junk 9\nscan 10\nstart\nscan 10\ncut 10 at 2 junk 9\nstart\ncut 10 at 0 junk 6\nstart\ncut 10 at 3 junk 9\nstart\nforce v1 7\nscan 10\nfree v1\nscan 10\nscan 70000\nforce v64 1\nforce v2 70000\n";
      told = codes "start: v0 0\nscan: v0 1 v1 65534\nscan: v0 2 v1 65535\nscan: v0 3 v1 0\nrefused 6 at 0\nstart: v0 3\nscan: v0 4 v1 1\nstart: v0 4\nstart: v0 5\nstart: v0 6\nscan: v0 7 v1 7\nscan: v0 8 v1 5\nrefused 7 at 0\nrefused 9 at 0\nrefused 9 at 1\n";
    }

abbrev pub examples : List Example
examples = motor ∷ sum ∷ wait ∷ quotient ∷ choice ∷ counter ∷ []

-- every example comes out
abbrev pub ExamplesComeOut : Type 0
ExamplesComeOut = Every ComesOut examples
