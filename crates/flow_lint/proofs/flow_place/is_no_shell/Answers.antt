use Rattle.std.proofs.Common.{◌≡◌, Bool, true, false, IsTrue, Ok, bytes_eq, codes, if◌then◌else◌, not, refl}
use Rattle.flow_model.specs.declared.plan.Shell.{Shell}
use Rattle.flow_model.specs.declared.plan.Shell.TheVariants.{Sh, Bash}
use Rattle.flow_reader.specs.Checked.{Checked, bad}
use Rattle.flow_reader.specs.declared.fault.FlowFault.TheVariants.{UnknownShell}
use Rattle.flow_lint.proofs.flow_place.is_no_shell.Goals as goal

abbrev named : Bool → Bool → Checked Shell
named is_sh is_bash = if is_sh then Ok Sh else if is_bash then Ok Bash else bad UnknownShell

not_sh : (is_sh is_bash x y : Bool) → x ≡ not is_sh → y ≡ not is_bash → x ≡ true
    → (IsTrue y → named is_sh is_bash ≡ bad UnknownShell) × (named is_sh is_bash ≡ bad UnknownShell → IsTrue y)
unfolding bad
not_sh true is_bash x y is_x is_y t = absurd (cc)
not_sh false true x y is_x is_y t = (λ h. absurd (cc), λ h. absurd (cc))
not_sh false false x y is_x is_y t = (λ h. refl, λ h. is_y)

is_sh : (is_sh is_bash x : Bool) → x ≡ not is_sh → x ≡ false
    → (IsTrue x → named is_sh is_bash ≡ bad UnknownShell) × (named is_sh is_bash ≡ bad UnknownShell → IsTrue x)
unfolding bad
is_sh true is_bash x is_x f = (λ h. absurd (cc), λ h. absurd (cc))
is_sh false is_bash x is_x f = absurd (cc)

pub returns-then-ne : goal.returns-then-ne
returns-then-ne c =
    let name = c.args.name.now in
    not_sh (bytes_eq name (codes "sh")) (bytes_eq name (codes "bash")) _ _ c.ne.ensures c.ne-then-ne.ensures c.if-ne.true

pub returns-else-ne : goal.returns-else-ne
returns-else-ne c =
    let name = c.args.name.now in
    is_sh (bytes_eq name (codes "sh")) (bytes_eq name (codes "bash")) _ c.ne.ensures c.if-ne.false
