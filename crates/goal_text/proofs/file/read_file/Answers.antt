use Rattle.goal_text.proofs.RefusalLaws.{read_found, read_goals, read_refused, read_exact}
use Rattle.goal_text.proofs.file.read_file.Goals as goal

pub returns-clause-found : goal.returns-clause-found
returns-clause-found c = read_found c.args.bytes.now c.sessions.result c.sessions.ensures

pub returns-clause-refused : goal.returns-clause-refused
returns-clause-refused c = read_refused c.args.bytes.now c.sessions.result c.sessions.ensures

pub returns-clause-exact : goal.returns-clause-exact
returns-clause-exact c = read_exact c.args.bytes.now c.sessions.result c.sessions.ensures

pub returns-clause-goals : goal.returns-clause-goals
returns-clause-goals c = read_goals c.args.bytes.now c.sessions.result c.sessions.ensures
